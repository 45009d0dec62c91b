pub mod Wording
pub mod Including
pub mod Timing
pub mod Advance
pub mod Undefining
