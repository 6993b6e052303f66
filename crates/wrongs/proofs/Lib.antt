-- The first line that defines an id, and how often an id is defined and used.
mod Firsts
mod Counts
-- The lines that are reached.
mod Reaches
-- The first line that is wrong.
mod Lines
-- The test of a line.
mod Fails
