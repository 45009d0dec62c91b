pub mod Extents
pub mod Heads
pub mod Lists
pub mod Definitions
pub mod Answers
