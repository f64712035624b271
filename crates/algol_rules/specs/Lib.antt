pub mod Opened
pub mod Refusing
