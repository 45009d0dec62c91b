pub mod Keywords
pub mod Letters
pub mod Tables
