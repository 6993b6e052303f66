pub mod Shapes
pub mod Ranges
pub mod Items
pub mod Lines
pub mod Within
pub mod Progress
pub mod Rows
