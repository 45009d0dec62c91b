pub mod Advancing
pub mod Reaching
