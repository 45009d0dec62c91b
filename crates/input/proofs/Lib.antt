pub mod Filling
pub mod Fitting
