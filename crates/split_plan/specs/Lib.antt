pub mod SegmentReferences
pub mod NamedFunctions
pub mod PlannedMoves
pub mod NameTable
pub mod Causes
