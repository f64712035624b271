pub mod Numbers
pub mod Filling
pub mod Segments
pub mod Spelled
