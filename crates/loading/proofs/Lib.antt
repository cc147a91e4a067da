pub mod Loading
pub mod Examples
