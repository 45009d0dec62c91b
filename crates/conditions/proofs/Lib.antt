pub mod Parts
pub mod Steps
pub mod Forms
mod Signs
mod Loops
mod Chains
mod Closing
pub mod Computing
pub mod Claims
