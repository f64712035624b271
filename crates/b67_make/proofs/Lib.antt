pub mod Each
pub mod Short
