pub mod Interpreters
pub mod Terminals
