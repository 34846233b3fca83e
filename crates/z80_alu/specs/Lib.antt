pub mod Flags
pub mod Bytes
pub mod Bits
pub mod Decimal
pub mod Pairs
pub mod Single
pub mod Signed
