pub mod Specifying
pub mod LowerBounds
pub mod Formals
pub mod Paired
