pub mod Lines
pub mod Completions
pub mod Outputs
pub mod Shown
pub mod Puts
pub mod Calls
