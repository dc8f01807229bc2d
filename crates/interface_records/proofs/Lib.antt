pub mod Groups
pub mod OneRecord
pub mod OneRow
pub mod Reading
