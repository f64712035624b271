pub mod Elements
pub mod Steps
pub mod Telling
