pub mod KeyLaws
pub mod OrderLaws
pub mod LimitLaws
pub mod MachineLaws
pub mod Examples
