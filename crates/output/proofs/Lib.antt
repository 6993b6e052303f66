pub mod Decimals
pub mod Putting
pub mod Texts
pub mod Lines
pub mod Cases
