pub mod Indices
pub mod Along
pub mod Trees
pub mod ButForReferences
