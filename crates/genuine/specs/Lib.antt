pub mod Fitness
pub mod Spelling
pub mod Layout
pub mod Leaving
