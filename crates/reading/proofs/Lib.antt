pub mod Lining
pub mod Leading
pub mod Onward
