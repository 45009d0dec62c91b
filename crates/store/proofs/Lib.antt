pub mod Entries
pub mod Ordering
pub mod Rooms
pub mod Places
pub mod Additions
pub mod Replacing
pub mod Emptying
