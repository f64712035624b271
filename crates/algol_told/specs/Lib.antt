pub mod Telling
pub mod Parameters
