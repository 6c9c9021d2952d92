pub mod Parts
pub mod ItemTexts
pub mod SegmentTexts
pub mod BodyTexts
pub mod EntryTexts
pub mod FileTexts
pub mod NumberRanges
pub mod BodyRanges
pub mod TreeRanges
pub mod SizeLaws
pub mod Inside
mod Rows
