pub mod Marks
pub mod OneDivision
