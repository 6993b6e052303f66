pub mod Action
pub mod Words
