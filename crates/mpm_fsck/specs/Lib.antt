pub mod Requests
pub mod Numbers
pub mod Outside
pub mod Endings
pub mod Steps
pub mod Parts
