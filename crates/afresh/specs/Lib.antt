pub mod Judging
pub mod Unfit
pub mod States
pub mod Feeding
