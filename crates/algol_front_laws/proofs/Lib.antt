mod Phases
mod Tidy
mod Cells
mod CellSpots
mod Couples
mod Alone
mod Frames
mod Ready
mod Declarations
pub mod Uses
pub mod Sources
mod Meanings
mod Spelled
mod Fronts
mod Lexed
mod EndToken
mod Parsed
mod OneAnswer
