pub mod Names
pub mod Laws
pub mod Given
pub mod Chosen
