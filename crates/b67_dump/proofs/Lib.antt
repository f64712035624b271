pub mod Lean
pub mod Once
pub mod Rows
pub mod Shown
pub mod Walks
