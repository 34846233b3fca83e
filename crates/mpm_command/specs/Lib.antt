pub mod Texts
pub mod Commands
pub mod BasePages
pub mod FileBlocks
