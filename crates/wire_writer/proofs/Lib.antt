pub mod Parts
pub mod Notes
