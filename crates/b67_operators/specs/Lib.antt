pub mod Arrays
pub mod Entries
pub mod Leaves
pub mod Stages
