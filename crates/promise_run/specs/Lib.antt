pub mod Sized
pub mod Run
pub mod Demands
