pub mod Delays
pub mod PackedDecimal
pub mod Times
