pub mod Expanding
pub mod Standing
