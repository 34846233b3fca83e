pub mod Columns
pub mod Console
pub mod Consoles
pub mod Keys
pub mod Handling
pub mod Fates
pub mod Runs
pub mod Modes
