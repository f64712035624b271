pub mod formers
pub mod Lending
pub mod Lines
pub mod Numbered
