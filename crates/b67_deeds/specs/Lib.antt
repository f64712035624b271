pub mod Letters
pub mod Events
pub mod Listed
pub mod Deeds
pub mod Laws
