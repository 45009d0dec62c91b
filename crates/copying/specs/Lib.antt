pub mod Cursors
pub mod Copying
