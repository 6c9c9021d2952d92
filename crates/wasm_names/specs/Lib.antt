pub mod NameList
pub mod Reading
