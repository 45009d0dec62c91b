pub mod Growing
pub mod Refused
pub mod Pieces
pub mod Stretches
pub mod NothingDropped
pub mod Claim
pub mod Demands
