pub mod Writes
pub mod Causes
pub mod Work
pub mod Reports
