pub mod Lean
pub mod Beside
pub mod Laws
pub mod Shed
