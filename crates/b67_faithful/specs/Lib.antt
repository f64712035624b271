pub mod Weight
pub mod Agreement
pub mod Correspondence
pub mod Lines
pub mod Faithful
pub mod Simulation
