pub mod Loops
pub mod Blocks
pub mod Exact
pub mod Framing
pub mod ItemLaws
pub mod Stopping
pub mod ItemStops
pub mod TokenStops
pub mod TokenLaws
pub mod Leaves
pub mod BodyLaws
pub mod NestLaws
pub mod BodyStops
pub mod EntryLaws
pub mod SectionLaws
pub mod SectionStops
pub mod FileLaws
pub mod CutLaws
pub mod LimitLaws
pub mod BoundLaws
pub mod SpelledLaws
pub mod CauseLaws
pub mod PlaceLaws
pub mod WithinLaws
mod Rows
pub mod FaultRows
mod NameRows
