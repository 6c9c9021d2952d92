pub mod Contents
pub mod Snapshot
pub mod Evaluated
pub mod After
