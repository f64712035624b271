pub mod Times
pub mod Joining
pub mod Able
