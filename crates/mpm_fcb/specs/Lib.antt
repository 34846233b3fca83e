pub mod Blocks
pub mod Names
pub mod Positions
pub mod Opening
