pub mod Searching
pub mod Reasons
