-- What one line of the list says.
pub mod Shapes
-- One name after others.
pub mod Entries
-- The lines of one use.
pub mod Turns
pub mod Progress
-- The whole list, and how many names it has; for callers.
pub mod Outcomes
-- What the tables find, for callers.
pub mod Lookup
