pub mod KeptIndexSpaces
pub mod ItemOrigins
pub mod SweepMapEntries
pub mod KeptBounds
pub mod SweptModuleValidity
pub mod PointLists
pub mod ClosureOfMarks
pub mod KeptNumberRanges
pub mod MarkCounts
pub mod NewAddresses
pub mod KeptImportAddresses
pub mod CorrespondingWorlds
pub mod NamedIndices
pub mod SweptModuleLinking
pub mod SweptModuleTraces
mod SmallerViews
pub mod WrongSweeps
pub mod UnreachableFunctionMarks
mod UnreachableFunctionRows
