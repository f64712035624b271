pub mod Digits
pub mod Operators
pub mod Formats
pub mod Listings
