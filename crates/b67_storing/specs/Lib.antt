pub mod Stores
pub mod Walking
