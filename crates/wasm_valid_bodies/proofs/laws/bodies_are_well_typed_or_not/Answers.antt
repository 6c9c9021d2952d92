use Rattle.wasm_valid_bodies.proofs.Decided.{typed_or_not}
use Rattle.wasm_valid_bodies.proofs.laws.bodies_are_well_typed_or_not.Goals as goal

pub returns : goal.returns
returns c = typed_or_not
