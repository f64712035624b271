pub mod Applying
pub mod Naming
pub mod Passing
pub mod Placing
pub mod Subscripting
