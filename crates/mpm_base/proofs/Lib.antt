pub mod CountLaws
pub mod Choices
pub mod Widths
pub mod Lists
pub mod Options
pub mod Tests
pub mod Results
