pub mod Journal
pub mod Step
pub mod History
pub mod Calls
pub mod Claims
pub mod Parts
