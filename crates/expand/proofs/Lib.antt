pub mod Computing
pub mod Claims
pub mod Calling
pub mod Replacing
pub mod Spelling
pub mod Naming
pub mod Running
