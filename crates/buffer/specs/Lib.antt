pub mod Look
pub mod Fill
