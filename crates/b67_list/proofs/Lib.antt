pub mod Answered
pub mod Lists
pub mod Numbered
pub mod Numbers
pub mod Truths
