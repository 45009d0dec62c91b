pub mod Scanning
pub mod Tests
pub mod Progress
pub mod Barring
pub mod Listing
pub mod Computing
pub mod Claims
