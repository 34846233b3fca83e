pub mod Parts
pub mod Laws
pub mod Moving
pub mod Examples
