pub mod Plain
pub mod PlainCode
pub mod PlainValues
