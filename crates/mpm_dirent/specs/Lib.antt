pub mod Entries
pub mod Proper
pub mod Names
