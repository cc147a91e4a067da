pub mod Serving
pub mod Recording
pub mod Unique
