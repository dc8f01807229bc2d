pub mod First
pub mod Bound
pub mod Logic
pub mod Carries
pub mod Chooses
pub mod Orders
pub mod Chosen
pub mod Edges
