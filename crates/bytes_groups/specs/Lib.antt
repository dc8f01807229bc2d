pub mod Quad
pub mod Tagged
pub mod Shown
