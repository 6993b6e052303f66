-- Laws of a search through the choices, for the proofs here and for callers.
pub mod Order
pub mod Agreeing
pub mod Count
pub mod Skipping
-- One law for each turn of a loop.
pub mod Turns
pub mod Reasoning
