pub mod Fits
pub mod Texts
pub mod Laws
