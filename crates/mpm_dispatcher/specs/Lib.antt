pub mod Dispatch
pub mod Calling
