pub mod Headlines
pub mod RunsInFull
