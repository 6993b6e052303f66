pub mod Visited
pub mod Queued
