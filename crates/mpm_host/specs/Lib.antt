pub mod Attached
pub mod Sent
