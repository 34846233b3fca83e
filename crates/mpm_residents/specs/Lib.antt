pub mod Messages
pub mod Interpreters
pub mod Standing
pub mod Lines
pub mod Terminals
pub mod Natives
