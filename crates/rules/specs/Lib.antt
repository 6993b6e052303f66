-- Document 01 as definitions, in the order to read them in.
-- What is computed: states, indexes, reading, the tree, the constraints, and the verdict over all of them.
pub mod State
pub mod Index
pub mod Result
pub mod Text
pub mod Table
pub mod Case
pub mod Fields
pub mod Print
pub mod Tree
pub mod Constraint
pub mod Verdict
-- What it means: the rules as statements, each row of the table as a statement, and the rewritings of the goal task.
pub mod Rules
pub mod Faults
pub mod Refusals
pub mod Ranges
pub mod Rewriting
-- What the calls promise.
pub mod Demands
-- The calls that the cards add, each in a file of its own.
pub mod Writing
pub mod Gaps
pub mod Tokens
pub mod Naming
pub mod Form
pub mod FormFaults
pub mod Import
-- The program's line, and 01's ten panel cases.
pub mod Line
pub mod Panel
