pub mod OneList
pub mod SoundLaws
pub mod TurnLaws
pub mod AheadLaws
pub mod PlaceLaws
