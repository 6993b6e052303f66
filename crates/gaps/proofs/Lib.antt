pub mod Digits
pub mod Lines
pub mod Putting
pub mod Runs
pub mod Spans
pub mod Summing
