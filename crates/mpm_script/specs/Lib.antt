pub mod Numbers
pub mod Keys
pub mod Events
pub mod Scripts
pub mod Reading
