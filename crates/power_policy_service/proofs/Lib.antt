pub mod Greatest
pub mod Choice
pub mod PairOrder
pub mod TypeC
pub mod Same
