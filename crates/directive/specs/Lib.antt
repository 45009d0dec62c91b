pub mod Words
pub mod Include
pub mod Forms
