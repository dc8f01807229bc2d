pub mod Ours
