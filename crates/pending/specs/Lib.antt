pub mod Pending
pub mod References
pub mod Sources
pub mod Adding
