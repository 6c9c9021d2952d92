use Rattle.dce_spec.specs.Swept.{swept}
use Rattle.dce_proof.proofs.KeptNumberRanges.{swept_numbers}
use Rattle.dce_proof.proofs.in_range.swept_modules_are_in_range.Goals as goal

pub returns : goal.returns
returns c = record {
  range = λ k m h valid single bounded.
      let stay = c.numbers_stay_in_range.ensures in c.valid_modules_are_in_range.ensures (swept k m) valid single bounded (swept_numbers stay.own stay.renumbered stay.declared k m h);
  memory = λ k m valid single bounded. c.valid_code_names_memory_zero.ensures (swept k m) valid single;
}
