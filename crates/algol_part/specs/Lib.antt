pub mod Brings
pub mod Phrases
pub mod Starts
pub mod Openings
