pub mod Long
pub mod Events
pub mod Steps
