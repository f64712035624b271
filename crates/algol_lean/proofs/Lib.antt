pub mod Lists
pub mod Changes
pub mod Choices
pub mod Doing
pub mod InUse
pub mod Steps
pub mod GivenBack
pub mod Passing
