-- Names as keys; for callers, the places that are not in the table yet.
pub mod Keys
-- What the loops over bytes ask.
pub mod Bytes
