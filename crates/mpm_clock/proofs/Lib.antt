pub mod DelayLaws
pub mod ClockLaws
pub mod Examples
