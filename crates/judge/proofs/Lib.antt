pub mod Tags
pub mod Verdicts
pub mod Frames
pub mod Phases
pub mod Openings
pub mod Constrained
