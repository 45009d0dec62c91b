pub mod Passing
pub mod Chains
pub mod Meaning
pub mod Meeting
