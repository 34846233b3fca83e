pub mod Bits
pub mod Block
pub mod Extended
pub mod Index
pub mod Instruction
pub mod Steps
