pub mod FaultLists
pub mod Freeing
