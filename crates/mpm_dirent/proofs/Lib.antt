pub mod Numbers
pub mod Sorts
pub mod Back
pub mod Examples
pub mod Lengths
pub mod PlainNames
