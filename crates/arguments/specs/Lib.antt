pub mod Arguments
pub mod Moving
pub mod Ranges
