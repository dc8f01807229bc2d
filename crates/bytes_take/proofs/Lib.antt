pub mod Level
pub mod Slot
pub mod Images
pub mod Turns
pub mod After
pub mod Moved
