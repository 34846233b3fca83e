pub mod Walked
pub mod Freed
pub mod StillProtected
