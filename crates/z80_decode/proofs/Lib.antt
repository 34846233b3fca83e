pub mod Listed
pub mod Operands
