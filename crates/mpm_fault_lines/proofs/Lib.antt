pub mod Marks
mod ListLaws
pub mod ReadBack
