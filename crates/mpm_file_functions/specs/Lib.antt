pub mod Functions
pub mod Refusals
pub mod Order
pub mod Ends
