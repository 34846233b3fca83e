pub mod Gates
pub mod Descriptors
pub mod Bytes
pub mod Texts
pub mod Reads
pub mod Calls
pub mod Replies
