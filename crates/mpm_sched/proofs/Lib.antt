pub mod DateLaws
pub mod Numbers
pub mod Formed
pub mod Firsts
pub mod Places
pub mod Sending
pub mod KeepingLaws
pub mod examples
