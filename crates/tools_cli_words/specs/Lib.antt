pub mod Arguments
pub mod Vocabularies
pub mod Meaning
pub mod Reader
