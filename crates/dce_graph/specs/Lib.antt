pub mod Reach
pub mod GraphFile
pub mod Entries
pub mod Marks
pub mod Walks
pub mod Laws
pub mod Prelude
