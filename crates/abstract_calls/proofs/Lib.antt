pub mod Results
pub mod OneToOne
pub mod Packets
pub mod Pages
pub mod Lists
