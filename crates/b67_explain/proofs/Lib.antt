mod Counts
mod Naming
mod Summing
pub mod Tailed
pub mod Ending
mod Outputs
mod Printed
pub mod Explained
pub mod Ran
pub mod Turning
mod Lettering
