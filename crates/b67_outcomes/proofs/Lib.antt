pub mod Determined
pub mod Histories
pub mod Rooms
pub mod Repeating
pub mod Passing
mod Only
pub mod Keeping
mod Closing
pub mod Apart
pub mod Trees
pub mod Kept
