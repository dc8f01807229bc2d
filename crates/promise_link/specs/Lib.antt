pub mod Source
pub mod Takes
pub mod Link
pub mod Alike
