pub mod Standing
pub mod Directory
