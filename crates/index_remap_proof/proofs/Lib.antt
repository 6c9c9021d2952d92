pub mod Lists
pub mod Along
pub mod Entries
pub mod Items
pub mod WholeTrees
pub mod TreeEntries
pub mod NamedFuncs
pub mod DeclaredTrees
mod Removed
