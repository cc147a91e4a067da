pub mod Keeping
pub mod Ending
pub mod Turning
pub mod Feeding
pub mod Finishing
pub mod Unique
