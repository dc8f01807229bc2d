pub mod Places
pub mod Turn
pub mod Example
pub mod Laws
pub mod Kept
pub mod Floor
pub mod Decided
