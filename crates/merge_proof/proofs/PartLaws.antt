-- The laws of world_simulation and wasm_meaning on parts and their instances.
use Rattle.std.specs.Prelude.{◌≡◌, List, Some}
use Rattle.wasm_meaning.specs.Prelude.{Inst, Part, Environment, insts_from}
use Rattle.wasm_meaning.specs.Counted.{EachPartAddsItsDefinitions}
use Rattle.world_simulation.specs.Prelude.{AllocatedStoresHaveDefinitions, EachInst, IndicesNameImportsOrDefinitions, SpacesAreImportsAndDefinitions}

-- The parts have these instances, and the laws hold on which the lemmas about them rest.
pub record Instances (env : Environment) (parts : List Part) (insts : List Inst) : Type 0 where
  pub are : insts_from env parts 0 parts ≡ Some insts
  pub each : EachInst env parts 0 parts insts
  pub spaces : SpacesAreImportsAndDefinitions
  pub names : IndicesNameImportsOrDefinitions
  pub placed : AllocatedStoresHaveDefinitions
  pub next : EachPartAddsItsDefinitions
