pub mod Reading
pub mod Fields
pub mod Segments
pub mod Drives
pub mod Residents
pub mod MachineFiles
