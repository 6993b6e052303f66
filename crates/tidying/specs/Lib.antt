pub mod Lines
pub mod Tidy
pub mod Order
