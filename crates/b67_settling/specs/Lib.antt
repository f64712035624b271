pub mod Own
pub mod Local
pub mod Settling
pub mod Laws
