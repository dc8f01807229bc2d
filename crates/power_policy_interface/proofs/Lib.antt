pub mod Bits
pub mod KindBits
pub mod Numbered
pub mod OneByte
pub mod Order
pub mod Past
pub mod Product
pub mod Same
