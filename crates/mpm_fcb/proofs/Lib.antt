pub mod Back
pub mod Handles
pub mod Attributes
pub mod Examples
