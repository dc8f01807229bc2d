pub mod Registration
pub mod State
pub mod Phase
pub mod Notices
