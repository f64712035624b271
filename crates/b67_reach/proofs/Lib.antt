pub mod Criticals
pub mod Looking
pub mod Woken
