pub mod Aiming
pub mod Literals
pub mod Values
