pub mod Layout
pub mod Marks
pub mod Fits
pub mod Standing
pub mod Whole
