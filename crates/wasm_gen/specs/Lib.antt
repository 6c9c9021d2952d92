pub mod Draws
pub mod Modules
pub mod Laws
