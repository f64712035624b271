pub mod Scoping
pub mod Tables
