pub mod Edges
