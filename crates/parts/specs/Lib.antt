pub mod Spans
pub mod Tests
