pub mod Operators
pub mod Syllables
pub mod Building
pub mod Fetching
pub mod Decoded
