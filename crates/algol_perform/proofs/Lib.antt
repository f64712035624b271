pub mod Effects
pub mod Fresh
pub mod Entries
pub mod Paths
pub mod Starts
pub mod Newer
pub mod Jumps
pub mod Joins
