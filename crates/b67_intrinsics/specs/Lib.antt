pub mod Called
pub mod Lines
pub mod Arrays
pub mod Names
