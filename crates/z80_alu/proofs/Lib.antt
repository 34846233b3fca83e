pub mod DecimalLaws
pub mod Examples
pub mod FlagLaws
pub mod FlagTable
pub mod Kept
pub mod Overflow
pub mod Ranges
