pub mod Holds
pub mod Known
pub mod Takes
