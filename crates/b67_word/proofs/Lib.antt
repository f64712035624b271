pub mod Fields
pub mod WordLaws
pub mod Cited
