pub mod Classes
pub mod Scans
pub mod Tokens
pub mod Faults
pub mod Covering
