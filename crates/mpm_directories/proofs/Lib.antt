pub mod Placed
pub mod Masks
