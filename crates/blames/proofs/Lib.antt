-- Laws of entries: for the proofs here, and for callers that make entries or go by what a broken one names.
pub mod Walks
pub mod Edges
pub mod Letters
pub mod Slots
pub mod Reasons
