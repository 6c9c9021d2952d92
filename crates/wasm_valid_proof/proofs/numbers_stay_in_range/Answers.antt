use Rattle.index_remap.specs.Prelude.{declared_refs}
use Rattle.wasm_valid_proof.proofs.ModuleNumbers.{new_number, numbers_of_range, renumbered_numbers, declared_numbers}
use Rattle.wasm_valid_proof.proofs.numbers_stay_in_range.Goals as goal

pub returns : goal.returns
returns c = record {
  own = numbers_of_range;
  renumbered = renumbered_numbers c.renumbering_keeps_numbers_in_range.ensures;
  constants = new_number;
  declared = λ m. declared_numbers m (declared_refs m);
}
