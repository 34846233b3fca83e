pub mod CachedLaws
pub mod SectorLaws
pub mod CoherentLaws
pub mod AliasLaws
