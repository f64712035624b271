pub mod Tables
pub mod Plain
pub mod Declaring
pub mod Formals
pub mod Widening
pub mod Extending
