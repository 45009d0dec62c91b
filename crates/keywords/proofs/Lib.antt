pub mod Places
pub mod Ordered
pub mod Stretches
pub mod Searching
pub mod Claims
