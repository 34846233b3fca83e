pub mod FloppyLaws
pub mod CallLaws
