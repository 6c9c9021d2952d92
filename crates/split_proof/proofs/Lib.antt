pub mod ReplacedBlocks
pub mod RenumberedReplacements
pub mod OperandTests
pub mod CallTypes
pub mod WellTypedBodies
pub mod DescribedSpaces
pub mod SecondarySpaces
pub mod SecondaryItems
pub mod PrimarySpaces
pub mod SlotCalls
pub mod PrimaryItems
pub mod AddedExportNames
pub mod SharedFunctions
pub mod PrimaryExports
pub mod CountBounds
pub mod OperandsAfterReplacement
pub mod MapEntries
pub mod SecondaryMapEntries
pub mod PrimaryMapEntries
pub mod ValidModules
mod LawExamples
mod ModuleCounts
pub mod CallsInRange
pub mod NamesInRange
pub mod SlotTableInRange
pub mod PrimaryInRange
pub mod SecondaryInRange
mod RangeExamples
pub mod AddressPartners
pub mod PlaceholderImports
pub mod IndexEntries
pub mod RelatedBodies
pub mod InitialDefinitions
pub mod PrimaryLinking
pub mod InstantiatedSplits
pub mod InitialFunctions
pub mod InitialSlots
pub mod InitialStates
pub mod StoresWithoutPlaceholders
pub mod StutteringRuns
pub mod SecondarySlots
pub mod EnteredFunctions
pub mod AnsweredSteps
pub mod SplitRuns
mod SmallRuns
mod WrongSplits
mod ExportsForSecondary
mod MatchingImports
mod SecondaryInstances
mod SecondaryLinking
mod LoadsInRuns
mod LoadedFunctionCode
mod StoresAfterLoads
mod RelatedInstances
mod MovedCalls
mod StatesAfterLoads
mod StatesAfterMovedCalls
mod TrampolineSteps
mod ReplacedCalls
mod SplitEquivalence
mod PremiseExamples
pub mod PairsAsSplits
