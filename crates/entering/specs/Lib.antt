pub mod Entering
pub mod Parts
pub mod Trees
pub mod Lines
pub mod Visits
