pub mod Wholes
pub mod Texts
pub mod Typing
pub mod Fitted
pub mod Numbers
pub mod Labelled
