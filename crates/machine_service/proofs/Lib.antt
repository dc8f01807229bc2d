mod Pushed
pub mod Results
