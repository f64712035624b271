pub mod Phases
pub mod Declarations
pub mod Meanings
pub mod Uses
pub mod Couples
pub mod OneAnswer
