pub mod Pictures
pub mod States
pub mod Depending
pub mod Waiting
pub mod Reaches
