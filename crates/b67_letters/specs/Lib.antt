pub mod Letters
pub mod Releases
pub mod Entries
pub mod Laws
