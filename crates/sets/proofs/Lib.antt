pub mod FourTags
pub mod TagTests
