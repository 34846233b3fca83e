pub mod Choosing
pub mod Filling
