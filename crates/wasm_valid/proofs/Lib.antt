pub mod Decided
pub mod Order
pub mod Marked
pub mod Repeats
pub mod OneMemory
