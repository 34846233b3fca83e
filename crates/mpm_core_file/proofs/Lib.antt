pub mod ReadLaws
pub mod HeadLaws
pub mod Examples
