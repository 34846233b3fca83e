pub mod CompletedLaws
pub mod ReadyLaws
pub mod WalkLaws
