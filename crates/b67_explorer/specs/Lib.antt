pub mod Entries
pub mod Following
pub mod Texts
pub mod Cells
