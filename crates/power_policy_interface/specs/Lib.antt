pub mod Limits
pub mod Order
pub mod Capability
pub mod Psu
pub mod Refusal
pub mod Charger
pub mod Service
