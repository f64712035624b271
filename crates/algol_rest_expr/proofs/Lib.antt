pub mod Trees
pub mod Supplying
pub mod Frames
