pub mod MovingLaws
pub mod AloneLaws
pub mod PlainLaws
