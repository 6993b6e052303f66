pub mod Turns
pub mod Meant
pub mod Progress
pub mod MethodLines
pub mod Bodies
pub mod Cases
