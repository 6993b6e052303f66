-- The laws of this crate, by subject.
pub mod Scan
pub mod Places
pub mod Feeds
pub mod Laws
pub mod Examples
