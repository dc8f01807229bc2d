pub mod Notice
pub mod Slot
pub mod Held
pub mod Fits
pub mod Image
