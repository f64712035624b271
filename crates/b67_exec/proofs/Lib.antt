pub mod Queues
pub mod Turning
pub mod Running
pub mod Working
mod Telling
