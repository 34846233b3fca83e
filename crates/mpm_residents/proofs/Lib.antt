pub mod InterpreterLaws
pub mod Filling
pub mod StandingLaws
pub mod TakenLaws
pub mod examples
