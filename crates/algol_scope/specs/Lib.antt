pub mod Resolved
pub mod Noting
pub mod Stating
pub mod Declaring
pub mod Finding
