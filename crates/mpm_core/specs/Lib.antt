pub mod Taking
pub mod Alone
pub mod Replaying
pub mod Agreement
pub mod Files
pub mod Parts
