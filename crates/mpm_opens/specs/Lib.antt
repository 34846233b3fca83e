pub mod Kinds
pub mod Items
pub mod Locks
pub mod Opens
