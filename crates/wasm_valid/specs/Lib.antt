pub mod Constants
pub mod Named
pub mod Names
pub mod SpaceTypes
pub mod Validity
pub mod First
pub mod Rejection
pub mod Prelude
