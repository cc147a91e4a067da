pub mod Masks
pub mod Ways
pub mod Steps
pub mod Marking
pub mod Packing
pub mod Settling
pub mod Whole
