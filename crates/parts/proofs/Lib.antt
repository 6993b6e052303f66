pub mod Stretches
pub mod Parts
pub mod Letters
