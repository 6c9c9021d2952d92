use Rattle.wasm_meaning.proofs.Exports.{exported_there}
use Rattle.wasm_meaning.proofs.found_exports_are_there.Goals as goal

pub returns : goal.returns
returns c = record { there = exported_there }
