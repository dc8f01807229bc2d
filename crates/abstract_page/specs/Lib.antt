pub mod Text
pub mod Page
pub mod ReadPage
pub mod PageLaws
pub mod Edges
