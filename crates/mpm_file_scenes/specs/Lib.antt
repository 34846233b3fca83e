pub mod Floppies
pub mod Standing
