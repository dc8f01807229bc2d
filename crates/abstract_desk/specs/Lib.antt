pub mod Follower
pub mod Takes
pub mod Edges
