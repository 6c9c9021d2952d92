pub mod RelatedOutcomes
mod UnknownReferences
pub mod ValueSteps
pub mod ValueGroup
pub mod MemorySteps
pub mod TableSteps
pub mod MemoryGroup
pub mod ControlSteps
pub mod ControlGroup
pub mod StepsAgree
pub mod KnownNames
pub mod ShownValues
pub mod PassedValues
pub mod Runs
pub mod WithoutPartner
pub mod StackRelations
pub mod EntryByEntryRuns
pub mod FramesBetween
pub mod SlotCalls
pub mod WiderRelations
pub mod EqualTraces
pub mod AboveSteps
pub mod CodeToItself
pub mod UnknownPlaces
mod UnknownSteps
mod UnknownRows
mod StepLawRows
mod TrampolineRows
