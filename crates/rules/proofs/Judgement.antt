-- What a verdict means: what reading guarantees, what the walk finds, and that a case is accepted exactly if it keeps the rules.
pub mod Each
pub mod Reading
pub mod Sound
pub mod Nodes
pub mod Back
pub mod Preorder
pub mod Waiting
pub mod Walk
pub mod WalkFinds
pub mod Claims
pub mod Run
pub mod Kept
pub mod Rows
pub mod Refusals
pub mod Theorem
