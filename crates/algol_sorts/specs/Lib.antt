pub mod Sorts
pub mod Tables
pub mod Specified
