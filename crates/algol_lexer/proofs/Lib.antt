mod LexWords
pub mod LexSpelling
mod LexFronts
mod LexFound
mod LexValue
mod LexCapitals
mod LexStands
mod LexStrings
mod LexRemarks
pub mod LexOnly
pub mod LexReach
pub mod LexRecords
pub mod LexTexts
pub mod LexOrder
