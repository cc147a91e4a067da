pub mod Answering
pub mod Unique
pub mod Doing
