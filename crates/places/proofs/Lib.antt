pub mod Lines
pub mod Filling
pub mod Tokens
pub mod Levels
