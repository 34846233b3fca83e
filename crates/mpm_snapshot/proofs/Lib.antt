mod EndingLaws
pub mod RequestLaws
pub mod Saved
pub mod SaveLaws
pub mod ResumeLaws
