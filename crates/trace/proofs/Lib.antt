pub mod LineLaws
pub mod TotalLaws
pub mod RunLaws
pub mod Whole
pub mod Taking
pub mod Room
pub mod Cases
