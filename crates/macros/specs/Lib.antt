pub mod Looking
pub mod Defining
pub mod Starting
pub mod History
