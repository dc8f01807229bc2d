pub mod Good
pub mod Steps
pub mod Invariant
pub mod Bound
