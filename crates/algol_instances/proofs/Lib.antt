pub mod Capping
pub mod Numbering
pub mod Cells
pub mod Placing
pub mod Elements
pub mod Setting
pub mod Counting
