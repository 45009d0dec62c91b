pub mod Unfolding
pub mod Faults
pub mod Using
pub mod Macros
pub mod Rows
pub mod Answers
