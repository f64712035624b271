pub mod Lines
pub mod Once
pub mod Steps
pub mod Verdicts
pub mod Beside
