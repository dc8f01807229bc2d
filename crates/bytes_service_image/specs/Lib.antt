pub mod WellFormed
pub mod Typed
pub mod Image
