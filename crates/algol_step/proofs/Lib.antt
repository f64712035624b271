pub mod Trees
pub mod Parameters
pub mod Cases
pub mod Elements
pub mod Waiting
