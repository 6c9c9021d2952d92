pub mod Loads
pub mod FirstNames
mod Memories
mod MergeDecided
pub mod UnusedNames
mod MetadceDecided
mod SplitDecided
mod CtorEvalDecided
mod NumberRanges
mod SampleRanges
mod SampleDecided
mod ReadBytes
mod WordTexts
pub mod Faithful
mod Determined
mod FirstItems
mod Existing
mod Accepted
mod EvaluatedMemories
mod TreesHold
mod Behaving
mod EachHeadline
mod WrittenOut
