pub mod Walking
pub mod Declaring
pub mod Announced
