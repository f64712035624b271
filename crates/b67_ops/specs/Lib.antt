pub mod Positions
pub mod Intrinsics
pub mod Codes
pub mod Spelling
pub mod Decoding
pub mod Refusals
pub mod Printed
