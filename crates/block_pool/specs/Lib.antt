pub mod Blocks
pub mod Kept
pub mod Lending
pub mod Pages
pub mod Table
