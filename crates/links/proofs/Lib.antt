-- The link of an id, by the table's answer, for callers.
pub mod Lookups
-- What the lines of a form that was read have, for callers.
pub mod Written
-- The lines that define the same id.
pub mod Pairs
-- Links stored and counted, one by one.
pub mod Stores
-- The links of one line.
pub mod Rows
-- The ids that lines use, line by line.
pub mod Uses
-- The links of all lines.
pub mod Resolving
