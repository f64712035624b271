pub mod Numbers
pub mod Commands
pub mod Reading
pub mod OneMeaning
