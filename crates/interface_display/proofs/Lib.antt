pub mod Count
pub mod OneBit
pub mod Set
pub mod Four
pub mod Tracked
