pub mod SeenEnd
pub mod Stepping
