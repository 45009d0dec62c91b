pub mod Either
pub mod Inner
pub mod Joining
