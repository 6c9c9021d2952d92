-- The laws of lower crates on the ends of imports, index spaces and allocated stores.
use Rattle.world_simulation.specs.ModulesAlone.{ImportsDenoteTheEnvironment, SpacesAreImportsAndOwn}
use Rattle.world_simulation.specs.EnvironmentEntities.{OwnEntitiesCorrespond}
use Rattle.world_simulation.specs.IndexSpaces.{EachPartHasAnInstance, IndicesNameImportsOrDefinitions, SpacesAreImportsAndDefinitions}
use Rattle.world_simulation.specs.AllocatedParts.{AllocatedStoresHaveDefinitions}
use Rattle.wasm_meaning.specs.Counted.{NoPartDefinesMoreThanAll}
use Rattle.merge_proof.specs.ImportEnds.{LinkedImportsEnd, StayingImportsEndThere, SitesAreImports, StayingImportsHavePlaces, NewIndicesArePlaces, DefinedEntitiesHavePlaces, TypesHavePlaces, MergedModulesDefineAll}

pub record SpaceLaws : Type 0 where
  pub ends : LinkedImportsEnd
  pub stays : StayingImportsEndThere
  pub sites : SitesAreImports
  pub places : StayingImportsHavePlaces
  pub indices : NewIndicesArePlaces
  pub defined : DefinedEntitiesHavePlaces
  pub types : TypesHavePlaces
  pub counts : MergedModulesDefineAll
  pub things : ImportsDenoteTheEnvironment
  pub spaces : SpacesAreImportsAndOwn
  pub own : OwnEntitiesCorrespond
  pub index_spaces : SpacesAreImportsAndDefinitions
  pub names : IndicesNameImportsOrDefinitions
  pub instances : EachPartHasAnInstance
  pub placed : AllocatedStoresHaveDefinitions
  pub within : NoPartDefinesMoreThanAll
