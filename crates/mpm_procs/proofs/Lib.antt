pub mod MapLaws
pub mod CountLaws
pub mod BlankLaws
pub mod Finding
