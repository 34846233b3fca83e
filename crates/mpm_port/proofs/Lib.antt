pub mod Faults
pub mod Flags
pub mod Shelves
pub mod Attached
pub mod FrameLaws
