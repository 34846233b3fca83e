pub mod Naming
pub mod Examples
