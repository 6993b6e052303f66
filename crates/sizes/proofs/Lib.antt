pub mod Cases
pub mod Items
pub mod Lines
