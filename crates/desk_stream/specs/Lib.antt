pub mod Ran
pub mod Held
pub mod Took
pub mod Known
