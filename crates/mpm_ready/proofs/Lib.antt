pub mod Examples
pub mod OrderLaws
pub mod ReadyOrder
pub mod TableLaws
pub mod Circles
pub mod LinkLaws
pub mod Walking
pub mod Changes
