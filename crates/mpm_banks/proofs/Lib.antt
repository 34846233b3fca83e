pub mod SegmentLaws
pub mod ActionLaws
pub mod RangeLaws
pub mod SideLaws
pub mod RangeBytes
pub mod WrittenBytes
pub mod WindowLaws
pub mod Examples
