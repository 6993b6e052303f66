-- What `first` says, for callers.
pub mod First
-- Walks from slot to slot.
pub mod Walks
-- What keeps a table right, for callers.
pub mod Tables
