pub mod Hiding
pub mod Going
pub mod Frames
pub mod Writing
pub mod PlaceWords
pub mod Usages
