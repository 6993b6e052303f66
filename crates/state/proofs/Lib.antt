-- Laws that the proofs of the code cite.
pub mod Tests
pub mod Words
