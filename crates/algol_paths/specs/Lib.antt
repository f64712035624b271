pub mod Texts
pub mod Blocks
pub mod Segments
pub mod Arrays
pub mod Laws
