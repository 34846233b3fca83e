pub mod Finds
pub mod DecimalLaws
pub mod KeyLaws
pub mod LineLaws
pub mod OrderLaws
pub mod FaultLaws
pub mod SpellingLaws
pub mod Examples
