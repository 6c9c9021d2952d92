use Rattle.wasm_meaning.proofs.Touches.{steps_write}
use Rattle.wasm_meaning.proofs.steps_write_only_touched_places.Goals as goal

pub returns : goal.returns
returns c = record { writes = steps_write }
