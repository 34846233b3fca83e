pub mod Grows
pub mod Laws
pub mod Traces
pub mod Putting
pub mod Closings
pub mod Examples
