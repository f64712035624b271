pub mod Naming
pub mod Looking
pub mod Passing
pub mod Seeing
pub mod Widening
