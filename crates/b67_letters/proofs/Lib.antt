pub mod Looks
pub mod Calm
pub mod Seen
pub mod Mute
pub mod Lettered
pub mod Deeds
