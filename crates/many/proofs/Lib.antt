pub mod Pairs
pub mod Unique
