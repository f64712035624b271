pub mod SeenValue
pub mod SeenCell
pub mod SeenStack
pub mod Placed
pub mod SeenScope
pub mod Shown
