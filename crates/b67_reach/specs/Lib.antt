pub mod Images
pub mod Answers
pub mod Criticals
pub mod Woken
