pub mod Columns
pub mod Decimal
pub mod Read
pub mod Same
pub mod Edges
