pub mod Words
pub mod Order
pub mod Constraints
pub mod Places
