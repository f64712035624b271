pub mod Schedules
pub mod Texts
pub mod Told
pub mod Walking
