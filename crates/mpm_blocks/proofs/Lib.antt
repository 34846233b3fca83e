pub mod Skew
pub mod Positions
pub mod Sizes
pub mod UsedTo
pub mod Laws
pub mod Written
pub mod Examples
