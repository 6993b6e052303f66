-- Laws of what the constraints say of every choice of gaps.
pub mod Cuts
pub mod Told
pub mod Telling
pub mod Summing
pub mod Joining
pub mod Letters
pub mod Sound
pub mod Entered
pub mod Visits
