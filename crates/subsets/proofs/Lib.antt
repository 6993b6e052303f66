-- Laws of the members of a set, for the proofs here and for callers that go through a set.
pub mod Chosen
pub mod Members
