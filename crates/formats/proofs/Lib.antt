pub mod Laws
pub mod Testing
