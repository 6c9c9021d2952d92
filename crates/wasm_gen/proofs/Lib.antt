pub mod Drawing
pub mod Validity
pub mod Rows
