pub mod Hiding
pub mod Standing
