pub mod Matching
pub mod Comparing
