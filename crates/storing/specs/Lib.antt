pub mod Stored
pub mod Graves
pub mod Writing
