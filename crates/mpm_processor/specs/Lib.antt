pub mod Moving
pub mod Executing
