pub mod Following
pub mod Books
