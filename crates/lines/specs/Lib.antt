pub mod Shapes
pub mod Ranges
pub mod Reading
