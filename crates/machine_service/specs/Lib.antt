pub mod Refusals
pub mod Service
pub mod Send
