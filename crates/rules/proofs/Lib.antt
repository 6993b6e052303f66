-- Laws about the definitions: what code and later laws may rely on without opening a definition.
pub mod Bits
pub mod Tables
pub mod Members
pub mod Quiet
pub mod Spans
pub mod Worded
pub mod Outcomes
-- The fields of a set that was read, and those of a worked case.
pub mod Fields
pub mod Worked
-- The statements of the rules beside the tests of the verdict.
pub mod Statements
pub mod Reports
pub mod Faults
-- Demand 2: the verdict against the declarative rules.
pub mod Judgement
-- The state list, number by number.
pub mod StateList
-- Card 2: a case as text and the text as a case, each from the other.
pub mod Printing
-- Demand 3: the rules against the rewritings of the goal task.
pub mod Rewritings
pub mod Demands
-- The promises of the write call: the order, and what is written.
pub mod Writing
-- The promises of the find-the-gaps call: the text with other gaps, and the first choice that would be accepted.
pub mod Gaps
-- The promises of the import call: the ids that a form reaches, and the tree that is found.
pub mod Import
