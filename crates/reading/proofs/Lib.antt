pub mod Parts
pub mod Ending
pub mod Scan
pub mod Ordering
pub mod Digits
