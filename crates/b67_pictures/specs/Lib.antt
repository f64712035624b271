pub mod Acting
pub mod Programs
