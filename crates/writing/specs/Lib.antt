pub mod Written
pub mod Buffers
