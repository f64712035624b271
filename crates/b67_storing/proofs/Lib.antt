pub mod Noting
pub mod Standing
