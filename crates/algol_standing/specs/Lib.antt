pub mod Skeleton
pub mod Worlds
pub mod Lows
pub mod Fitting
pub mod Laws
