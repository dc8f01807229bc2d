pub mod Rows
pub mod Config
pub mod Consumer
pub mod Choice
pub mod PairOrder
pub mod Provider
pub mod TypeC
