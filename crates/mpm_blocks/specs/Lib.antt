pub mod Geometries
pub mod Maps
pub mod Sectors
