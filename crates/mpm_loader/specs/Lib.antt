pub mod Plans
pub mod Pieces
