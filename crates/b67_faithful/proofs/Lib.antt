pub mod Contradictions
pub mod Sources
pub mod Ways
pub mod Choices
pub mod Following
pub mod Counting
