pub mod NameMaps
pub mod Subsections
pub mod NameSections
pub mod NameLists
mod Rows
