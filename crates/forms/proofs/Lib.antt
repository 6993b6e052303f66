pub mod Named
pub mod Grown
pub mod FrontLines
pub mod FrontTurns
pub mod BackLines
pub mod BackTurns
pub mod Whole
pub mod Answered
