pub mod Extents
pub mod Rows
pub mod Filled
pub mod Allocating
pub mod Several
