pub mod Providers
pub mod Set
pub mod Display
pub mod Notices
