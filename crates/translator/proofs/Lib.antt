pub mod Calling
pub mod Translating
pub mod Unique
