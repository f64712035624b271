pub mod Leading
mod Booking
mod Replays
mod States
