pub mod Seeing
pub mod Adding
pub mod Spanning
pub mod Viewing
pub mod Cleaning
