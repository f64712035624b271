pub mod Performing
pub mod Making
pub mod Going
pub mod Path
