pub mod Holding
pub mod Known
