pub mod SizeLaws
pub mod TailLaws
