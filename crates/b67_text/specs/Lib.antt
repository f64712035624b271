pub mod Texts
pub mod Numerals
pub mod Choices
