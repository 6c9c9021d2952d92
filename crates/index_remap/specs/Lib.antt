pub mod Renumbered
pub mod References
pub mod CodeNames
pub mod Agreement
pub mod Replaced
pub mod Laws
pub mod Prelude
