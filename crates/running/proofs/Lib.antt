pub mod Front
pub mod SetFields
pub mod Reached
pub mod Outcome
