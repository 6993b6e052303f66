pub mod Groups
pub mod Whole
