pub mod Subscripts
pub mod Sizes
pub mod Arrays
