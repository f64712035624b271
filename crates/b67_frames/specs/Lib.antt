pub mod Arrays
pub mod Frames
pub mod Lent
pub mod Events
