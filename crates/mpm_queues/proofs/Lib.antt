pub mod Finding
pub mod MessageLaws
pub mod QueueLaws
pub mod SoundLaws
pub mod RunLaws
pub mod WaitLaws
pub mod Examples
