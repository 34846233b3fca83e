pub mod Places
pub mod Direct
