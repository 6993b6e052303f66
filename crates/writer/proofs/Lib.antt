pub mod Fields
pub mod Verdicts
