pub mod Stored
pub mod Writing
