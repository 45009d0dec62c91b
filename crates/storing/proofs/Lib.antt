pub mod Adding
pub mod Reading
pub mod Joining
pub mod Trimming
pub mod Accents
