-- Names of corresponding worlds, passed on from one place. Declares nothing.
pub use Rattle.world_simulation.specs.ModulesAlone.{addresses, external_value_in, import_places, key_in, one, read_in, site}
pub use Rattle.world_simulation.specs.AllocatedParts.{Adds, AddsWith, AllocatedStoresHaveDefinitions, Allocates, HasDefinitions, PartsAddWhatCanBeAllocated, added_store}
pub use Rattle.world_simulation.specs.SegmentsByPart.{DatasAreListedByPart, ElemsAreListedByPart, segments_by_part}
pub use Rattle.world_simulation.specs.DeclaredReferences.{DeclaringAddsASegment, DeclaringSegmentsAreAllocated, IsWithDeclared, last_segments}
pub use Rattle.world_simulation.specs.CorrespondingDefinitions.{DefinedAt, DefinitionsCorrespond, ElemsAlike, ElemsCorrespond, FuncsAt}
pub use Rattle.world_simulation.specs.CorrespondingDefinitions.{FuncsCorrespond, GlobalsCorrespond, Instantiated, Partners, is_declarative}
pub use Rattle.world_simulation.specs.CorrespondingDefinitions.{values_in}
pub use Rattle.world_simulation.specs.IndexSpaces.{EachInst, EachPartHasAnInstance, SpaceEntry, IndicesNameImportsOrDefinitions, IsInst, IsSpace, SpacesAreImportsAndDefinitions, defines}
pub use Rattle.world_simulation.specs.IndexSpaces.{import_address, imports}
pub use Rattle.world_simulation.specs.CorrespondingInstances.{RelatedBegunHaveEqualTraces}
pub use Rattle.world_simulation.specs.NamedIndices.{EntriesName}
pub use Rattle.world_simulation.specs.NewContents.{new_data, new_memory, new_table}
pub use Rattle.world_simulation.specs.EnvironmentEntities.{OwnCorrespond, OwnEntitiesCorrespond, SharesOwn, SpaceAt}
pub use Rattle.world_simulation.specs.SegmentsInOrder.{DataAlone, DatasInOrder, DatasPartner, ElemAlone, ElemsInOrder, ElemsPartner, InOrder, RelatedStay, both, ends, in_first, in_second, offset_in}
pub use Rattle.world_simulation.specs.SegmentsInOrder.{only_second}
pub use Rattle.world_simulation.specs.CorrespondingWorlds.{AreSimilar, IsInstantiated, StartsCorrespond, WhatIsInstantiated, WorldsCorrespond}
