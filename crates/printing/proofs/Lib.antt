pub mod Digits
pub mod Backward
pub mod Putting
