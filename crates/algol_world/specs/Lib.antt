pub mod SeenWorld
pub mod Going
pub mod SeenActed
pub mod Leaving
pub mod Saving
