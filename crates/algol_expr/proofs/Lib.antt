pub mod Reading
pub mod Turns
pub mod Ends
pub mod Events
pub mod Parts
pub mod Complete
pub mod Inner
pub mod Sound
pub mod Steps
pub mod Viable
pub mod Texts
pub mod Idle
pub mod Exact
pub mod Chain
pub mod Taken
pub mod Starts
pub mod Lists
mod Operands
mod Climbing
mod Relations
pub mod Lift
pub mod Public
mod Places
pub mod Arms
