pub mod Splicing
pub mod Records
