pub mod Queue
pub mod Messages
pub mod Queues
pub mod Handling
pub mod Runs
pub mod Exchanges
pub mod Blocks
