pub mod Bodies
pub mod Silent
pub mod Walked
pub mod Stated
pub mod Bodied
pub mod Arms
pub mod Ordered
pub mod Entire
