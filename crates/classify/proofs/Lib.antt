pub mod Filled
pub mod Passing
pub mod Listing
pub mod Writing
pub mod Claims
