pub mod Pushing
pub mod Formed
pub mod Walking
pub mod Working
pub mod Told
pub mod Claims
