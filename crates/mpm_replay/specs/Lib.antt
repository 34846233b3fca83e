pub mod Ports
pub mod Replays
pub mod Agreeing
