pub mod Runs
pub mod Promise
pub mod Same
pub mod Testers
pub mod Layout
pub mod Claim
