pub mod Protections
pub mod Sizes
pub mod Limits
pub mod Telling
pub mod Granting
