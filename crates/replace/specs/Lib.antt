pub mod Tidying
pub mod Replacing
pub mod Placing
