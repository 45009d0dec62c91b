pub mod Taking
pub mod Halting
