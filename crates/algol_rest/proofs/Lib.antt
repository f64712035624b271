pub mod Following
pub mod Statements
pub mod Asking
pub mod Answering
pub mod Declaring
pub mod Labels
