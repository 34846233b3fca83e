pub mod Dates
pub mod Entries
pub mod Forms
pub mod Schedules
pub mod Schedulers
pub mod Keeping
