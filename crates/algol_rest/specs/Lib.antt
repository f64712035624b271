pub mod SeenStatement
pub mod SeenRest
