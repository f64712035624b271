pub mod Naming
pub mod Cited
