pub mod Told
pub mod Steps
pub mod Follows
pub mod Kept
pub mod Serves
