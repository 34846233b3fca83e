pub mod Telling
pub mod Mounting
pub mod Opening
