pub mod Standing
pub mod Lines
