pub mod Held
pub mod Follower
pub mod WellFormed
