mod Performed
pub mod Fitting
mod Followed
mod Owned
mod Touched
mod Assembled
