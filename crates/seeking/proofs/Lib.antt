-- Laws of the search, for the proofs here.
pub mod Skipping
pub mod Long
pub mod Searching
