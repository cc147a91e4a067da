pub mod DropLaws
pub mod SetTests
pub mod DropWays
