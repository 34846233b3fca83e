pub mod Bounds
pub mod OtherImages
pub mod WriteLaws
pub mod LeavesLaws
pub mod SlotLaws
pub mod SlotPuts
