pub mod Owning
pub mod Schedules
