pub mod Places
pub mod Turns
pub mod OneTake
pub mod Lists
pub mod Demand
pub mod Ring
pub mod Order
pub mod Alike
