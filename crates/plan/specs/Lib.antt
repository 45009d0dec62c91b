pub mod Given
pub mod Named
pub mod Stored
