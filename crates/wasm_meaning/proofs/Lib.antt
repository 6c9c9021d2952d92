mod SmallRuns
mod MoreRuns
mod EmbedderRuns
mod IllTypedRuns
mod FurtherRuns
mod EnvironmentRows
mod SequentialRuns
mod LoaderRuns
mod RunLawExamples
mod OrderAndIndexRuns
mod LinkingAndSegmentRuns
pub mod Walks
pub mod Linked
pub mod Counts
pub mod Exports
mod StartFrames
pub mod Outcomes
mod Touches
