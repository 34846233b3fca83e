pub mod Echoes
pub mod Keys
pub mod Lines
