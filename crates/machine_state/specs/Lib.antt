pub mod Memory
pub mod Phase
