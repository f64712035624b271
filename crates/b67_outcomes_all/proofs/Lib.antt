mod Telling
pub mod Outcomes
pub mod Kept
