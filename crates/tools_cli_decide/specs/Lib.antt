pub mod Labels
pub mod Sources
pub mod Command
pub mod Refusals
pub mod Causes
pub mod Prelude
