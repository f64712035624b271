pub mod Parts
pub mod Performing
pub mod Operating
pub mod Actions
pub mod Lettered
pub mod Flat
pub mod Prepared
pub mod Laws
