pub mod Backwards
pub mod HeldUses
pub mod InRange
pub mod Loops
pub mod Parts
pub mod Spelled
