pub mod Expressions
pub mod Statements
pub mod Rests
pub mod Making
pub mod Jumps
