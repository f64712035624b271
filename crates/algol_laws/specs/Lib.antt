pub mod Kept
pub mod Quiet
pub mod Heads
pub mod Again
pub mod Reading
