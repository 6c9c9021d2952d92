mod StartFunctions
pub mod FirstStep
pub mod NamedIndices
pub mod ModulesAlone
pub mod EnvironmentEntities
pub mod PartInstances
pub mod AllocatedParts
pub mod AllocatedStores
pub mod SegmentRoom
pub mod SegmentsInOrder
pub mod RelatedInstantiation
pub mod RenumberedItems
pub mod DeclaredReferences
pub mod OneModuleWorlds
mod SegmentRows
pub mod AddedModules
pub mod InstantiatedStores
mod InstantiatedStoreRows
pub mod FunctionIndependence
pub mod SegmentCopies
pub mod ConstantValues
pub mod EnlargedModules
pub mod EntityDenotations
pub mod EmptyLoaders
mod EmptyLoaderRows
pub mod LoaderSteps
pub mod DefinedPlaceholders
pub mod StoreExtension
pub mod FrameStepExtension
pub mod RunStepExtension
pub mod AddedModuleExtension
pub mod TypedInstances
pub mod FailedRuns
