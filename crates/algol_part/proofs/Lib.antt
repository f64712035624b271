pub mod Chains
pub mod Firsts
pub mod Loops
pub mod Tails
pub mod Specs
pub mod Begun
pub mod Openings
