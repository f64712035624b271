pub mod Stepping
pub mod Standing
pub mod Laws
