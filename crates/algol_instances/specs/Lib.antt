pub mod SeenInstance
pub mod SeenArray
pub mod Counting
