pub mod Images
pub mod Mounted
pub mod Stopping
pub mod Calling
