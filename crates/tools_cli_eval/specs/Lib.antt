pub mod Evaluations
pub mod Named
pub mod Calls
