mod Counted
pub mod Same
