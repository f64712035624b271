pub mod Entering
pub mod Settling
pub mod Finding
pub mod Kept
