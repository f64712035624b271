pub mod Numbers
pub mod Places
pub mod Steps
pub mod Sent
pub mod Walks
