pub mod Commands
pub mod Noting
pub mod Positions
