pub mod SamenessTests
pub mod EntityTypes
pub mod ListsByPart
pub mod TypePlaces
pub mod MergedSpaces
pub mod LinkFaults
pub mod EndTypes
pub mod NewIndices
pub mod EndsAndSites
pub mod PartAgreement
pub mod ConstantTypes
pub mod MergedImports
pub mod MergedStart
pub mod MergedExports
pub mod MergedCounts
pub mod MergedItems
pub mod MergedValidity
mod TwoMemories
mod PartProperties
mod ImportLimits
mod ConstantNumbers
mod CallNumbers
mod ExportNames
mod MergedNumbers
mod GreatestLabel
pub mod SpaceLaws
pub mod Counterparts
pub mod MergedAlone
pub mod MergedInstances
pub mod SharedPairing
pub mod ValueLaws
pub mod ConstantValues
pub mod NamedEntities
pub mod AddressOrigins
pub mod MergedDefinitions
pub mod StartedFunctions
pub mod MergedSegments
pub mod ExternalTypes
pub mod ImportMatching
mod MergedWorlds
mod WrongMerges
mod PartsOfWrongMerges
mod PartLaws
mod ExternalValues
mod JoinedImports
mod ReachedAddresses
mod InstanceAddresses
mod PartInstantiation
mod ClosedStores
mod SideBySideStores
mod ExtensionLaws
mod StartSteps
mod CopyReferences
mod PartTurns
mod TurnsBetweenStarts
mod AfterStarts
mod RunStages
mod BeforeFirstStart
mod SequentialTraces
mod OwnAddresses
mod EarlierEnds
mod AddressOrder
mod StoresByPart
mod SequentialConstants
mod CopyRuns
mod SegmentJobs
mod ElementSegmentRuns
mod DataSegmentRuns
mod PartStores
mod SegmentsInTurn
mod NextSegments
mod ValidParts
mod StoreLayout
mod CopiedStores
mod NullaryStarts
mod WellBegunWorlds
mod SequentialExamples
