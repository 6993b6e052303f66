pub mod Words
pub mod Fronts
pub mod Idents
pub mod Backs
pub mod Openings
