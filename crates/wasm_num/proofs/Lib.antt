pub mod Counts
pub mod Rotations
