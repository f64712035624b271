pub mod Turns
pub mod Exec
pub mod Turning
pub mod Worked
pub mod Texts
