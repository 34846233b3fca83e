pub mod SuitLaws
pub mod TurnLaws
