pub mod Reaching
pub mod Keeping
pub mod Laws
pub mod Cores
pub mod Worked
