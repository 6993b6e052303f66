-- What the loops write, and why those are the records of the case.
pub mod Written
pub mod Records
-- What the find-the-gaps call finds.
pub mod Finds
