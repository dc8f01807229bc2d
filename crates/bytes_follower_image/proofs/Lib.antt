pub mod Notices
pub mod Slots
pub mod Rows
pub mod Readers
pub mod OneImage
pub mod Takes
pub mod ShownBy
pub mod Tests
