pub mod Children
pub mod Copied
pub mod Homes
pub mod CreatedLaws
pub mod Beginning
pub mod TargetLaws
pub mod AbortLaws
pub mod ProcedureLaws
