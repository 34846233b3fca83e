pub mod Kinds
pub mod Steady
