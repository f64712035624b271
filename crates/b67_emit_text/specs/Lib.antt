pub mod Texts
pub mod Entries
pub mod Codes
pub mod Programs
pub mod Segments
pub mod Targets
