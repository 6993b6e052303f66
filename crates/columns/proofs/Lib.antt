-- Laws over any position and any list.
pub mod Masks
pub mod Walking
pub mod Filling
-- The invariant of the columns.
pub mod Kept
