pub mod Labels
pub mod Rules
pub mod Assembling
pub mod Writable
pub mod Steps
pub mod Codes
pub mod Formats
