pub mod Writing
pub mod Singles
pub mod Going
