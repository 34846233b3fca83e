pub mod Operands
pub mod StackPairs
pub mod Conditions
pub mod Loads
pub mod Calculations
pub mod Flow
pub mod Performing
pub mod Leaving
