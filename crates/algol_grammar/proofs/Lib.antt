pub mod Optional
pub mod Headings
pub mod Lists
pub mod Begins
pub mod Complete
pub mod Meant
pub mod Given
pub mod SoundHeadings
pub mod SoundLists
pub mod SoundStatements
pub mod SoundDeclarations
pub mod SoundDue
pub mod Keeps
pub mod Inside
pub mod Places
pub mod Sound
pub mod Feed
pub mod Texts
pub mod Idle
pub mod Outset
pub mod Labels
pub mod Deep
pub mod Exact
pub mod OneTree
mod Picks
pub mod InOrder
mod Alone
mod Laxer
mod Ahead
pub mod Refusals
