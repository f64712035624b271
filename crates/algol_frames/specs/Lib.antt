pub mod ByLine
pub mod Answers
pub mod Framing
pub mod Laying
