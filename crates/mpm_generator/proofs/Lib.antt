pub mod Sizes
pub mod Blocks
pub mod Places
pub mod Typed
pub mod ProgramSizes
