pub mod Cases
pub mod Frames
pub mod Leading
pub mod Plans
pub mod Putting
pub mod Walks
