pub mod Fitting
pub mod Runs
pub mod Examples
pub mod Marks
pub mod Formed
pub mod Taken
