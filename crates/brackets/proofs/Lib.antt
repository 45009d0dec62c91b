pub mod Digits
pub mod Stacking
pub mod Settling
