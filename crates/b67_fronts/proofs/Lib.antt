pub mod One
pub mod Onward
