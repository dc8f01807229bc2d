pub mod Number
pub mod Parser
pub mod Packet
pub mod Read
pub mod Bytes
pub mod WellFormed
