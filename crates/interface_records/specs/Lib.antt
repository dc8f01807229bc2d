pub mod Group
pub mod Row
pub mod Psu
pub mod Charger
pub mod Encodings
