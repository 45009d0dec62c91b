pub mod Moves
pub mod Opening
pub mod Collecting
