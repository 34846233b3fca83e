pub mod Items
pub mod Lists
pub mod CallingRows
pub mod PrintedLaws
pub mod examples
