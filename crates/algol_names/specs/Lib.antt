pub mod Blocks
pub mod Found
pub mod Kept
pub mod Meant
