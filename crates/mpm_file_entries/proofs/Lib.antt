pub mod SizeLaws
pub mod Told
pub mod CodedLaws
pub mod PutLaws
