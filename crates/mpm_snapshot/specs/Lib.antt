pub mod Requests
pub mod Lines
pub mod Endings
pub mod Parts
pub mod Numbers
