pub mod Filled
pub mod Columns
pub mod Lines
pub mod Lengths
pub mod Whole
pub mod Says
