pub mod SmallSplits
pub mod Spelled
