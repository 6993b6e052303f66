-- The lines' links, the root's, and the first wrong line, put together.
pub mod Joining
