pub mod Processes
pub mod Several
pub mod Releasing
pub mod Deeds
pub mod Innermosts
pub mod Exits
pub mod Copies
