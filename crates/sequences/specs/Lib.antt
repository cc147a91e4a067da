pub mod History
pub mod Doors
pub mod Covers
pub mod Spans
pub mod Claims
pub mod Drops
