pub mod Places
pub mod Quads
pub mod Consumers
pub mod Displays
pub mod Masks
