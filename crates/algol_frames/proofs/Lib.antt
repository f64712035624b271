pub mod Noting
pub mod Frames
pub mod Laid
mod ByLine
