pub mod Keys
pub mod Telling
pub mod Sorts
