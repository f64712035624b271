pub mod Heaps
pub mod Lists
pub mod Tables
pub mod StoreLaws
pub mod TopFirst
pub mod Rooms
pub mod Cited
