-- The rules of a claimed tree and the complete rewritings of the goal task (01, "Rewriting"): the theorem that joins them.
pub mod Statement
pub mod Lists
pub mod Records
pub mod Paths
pub mod Steps
pub mod Lines
pub mod Trees
pub mod Extremes
pub mod Spans
pub mod Claims
pub mod Theorem
pub mod Tests
pub mod Examples
