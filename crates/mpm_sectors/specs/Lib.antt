pub mod Writes
pub mod Slots
pub mod Disks
pub mod Calling
