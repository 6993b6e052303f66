-- What the proofs of several functions use, and what later crates may rely on.
mod Entries
pub mod Stores
pub mod Claimed
mod Judging
mod Steps
mod Passing
mod Siblings
pub mod Within
mod Whole
pub mod Directory
