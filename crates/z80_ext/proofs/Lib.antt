pub mod Examples
pub mod PageRanges
pub mod Ranges
pub mod Next
pub mod LoadUp
pub mod Beside
pub mod Begun
pub mod Rare
