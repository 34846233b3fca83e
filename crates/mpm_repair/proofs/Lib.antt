mod Examples
mod Freed
mod FreedSectors
mod Judged
mod Listed
pub mod FreedImages
pub mod ListedSlots
pub mod Shared
pub mod Staying
pub mod FreedSlots
mod Listable
pub mod OwnList
