pub mod OneTree
pub mod ReadExactly
pub mod InOrder
pub mod OneRefusal
