pub mod Marks
pub mod Driving
pub mod Busy
pub mod Protected
