pub mod Decimals
pub mod Beginnings
pub mod Fronts
pub mod Parts
