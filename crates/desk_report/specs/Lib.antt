pub mod Text
pub mod Line
pub mod Desk
pub mod Reads
pub mod Buffer
pub mod Page
pub mod Sheet
