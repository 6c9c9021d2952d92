pub mod State
pub mod Stops
pub mod Quiet
pub mod Instantiation
pub mod Evaluation
pub mod StateContents
pub mod Prelude
