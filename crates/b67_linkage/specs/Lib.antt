pub mod Held
pub mod Closing
pub mod Entering
pub mod Leaving
pub mod Laws
pub mod Showing
