pub mod Built
pub mod Renewed
