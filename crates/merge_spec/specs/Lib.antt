pub mod Parts
pub mod Faults
pub mod Linked
pub mod Merged
pub mod Joined
pub mod Types
pub mod View
pub mod Prelude
