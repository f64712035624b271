pub mod Cells
pub mod Dumps
pub mod Laws
pub mod Seen
pub mod Snapshots
