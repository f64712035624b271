pub mod Runs
pub mod Words
pub mod Symbols
pub mod Shown
pub mod Records
pub mod Outcome
pub mod Order
