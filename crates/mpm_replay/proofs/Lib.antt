pub mod PortLaws
pub mod ReadLaws
pub mod ReplayLaws
pub mod AgreeLaws
pub mod Examples
