pub mod Characters
pub mod Readings
pub mod Matching
pub mod Spellings
pub mod Splitting
pub mod Forms
