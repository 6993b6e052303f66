-- Ids as keys; for callers, the ids that are not in the table yet.
pub mod Keys
