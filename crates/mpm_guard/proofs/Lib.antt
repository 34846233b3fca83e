pub mod PasswordLaws
pub mod Examples
