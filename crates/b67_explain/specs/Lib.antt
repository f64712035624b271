pub mod Explaining
pub mod Telling
pub mod Alone
pub mod Shared
pub mod Turning
pub mod Lettering
