pub mod Filing
pub mod Searches
pub mod Subjects
pub mod Refusals
pub mod Looking
pub mod Asking
pub mod Lookups
