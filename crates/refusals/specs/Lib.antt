pub mod Asked
pub mod Refusal
