pub mod Waiting
pub mod Disk
pub mod Turns
pub mod Ahead
pub mod Places
pub mod Calling
