pub mod Sources
pub mod Ordered
mod Parts
