pub mod Fields
pub mod StackPairs
pub mod Opcodes
pub mod PageOpcodes
pub mod Decoding
pub mod Listed
