pub mod Cached
pub mod Calls
pub mod Coherent
