pub mod Marks
pub mod Swept
pub mod Closed
pub mod Unswept
pub mod Reached
