use Rattle.merge_spec.specs.Joined.{joined_module}
use Rattle.merge_proof.proofs.MergedNumbers.{joined_numbers}
use Rattle.merge_proof.proofs.in_range.merged_modules_are_in_range.Goals as goal

pub returns : goal.returns
returns c = record {
  range = λ parts mode h valid single bounded.
      c.valid_modules_are_in_range.ensures (joined_module parts mode) valid single bounded (joined_numbers c.numbers_stay_in_range.ensures.own c.numbers_stay_in_range.ensures.renumbered c.numbers_stay_in_range.ensures.constants c.numbers_stay_in_range.ensures.declared parts mode h);
  memory = λ parts mode valid single bounded. c.valid_code_names_memory_zero.ensures (joined_module parts mode) valid single;
}
