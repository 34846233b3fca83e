pub mod Ending
pub mod Creating
pub mod Aborting
pub mod Copies
pub mod Procedures
pub mod Calling
