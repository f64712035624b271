pub mod Paths
pub mod Starts
pub mod Leaves
pub mod Targets
pub mod Laws
