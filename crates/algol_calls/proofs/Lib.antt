pub mod Sorts
pub mod Expressions
pub mod Statements
pub mod Rests
pub mod Simple
