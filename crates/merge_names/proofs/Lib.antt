pub mod Among
pub mod Clauses
pub mod Coming
pub mod Distinct
pub mod Few
pub mod Loops
pub mod Renamed
pub mod Rules
