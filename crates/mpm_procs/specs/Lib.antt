pub mod Opening
pub mod Settings
pub mod Table
pub mod Finding
pub mod Lending
