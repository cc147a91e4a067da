pub mod Pages
pub mod Walking
pub mod Holding
