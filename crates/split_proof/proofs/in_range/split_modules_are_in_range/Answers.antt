use Rattle.split_spec.specs.Prelude.{primary_with, secondary_with}
use Rattle.split_proof.proofs.PrimaryInRange.{few_move, primary_numbers}
use Rattle.split_proof.proofs.SecondaryInRange.{secondary_numbers}
use Rattle.split_proof.proofs.SlotTableInRange.{NumberLaws}
use Rattle.split_proof.proofs.in_range.split_modules_are_in_range.Goals as goal

laws : (c : goal.After-counts_are_within_where_none_is_over) → NumberLaws
laws c = record { own = c.numbers_stay_in_range.ensures.own; renumbered = c.numbers_stay_in_range.ensures.renumbered; declared = c.numbers_stay_in_range.ensures.declared }

pub returns : goal.returns
returns c =
    let in_range = c.valid_modules_are_in_range.ensures in
    let memory_zero = c.valid_code_names_memory_zero.ensures in
    record {
      few = few_move c.counts_are_within_where_none_is_over.ensures;
      primary = λ namespace prefix m moved namespaces utf8 h few most valid single bounded.
          let numbers = primary_numbers (laws c) namespace prefix m moved namespaces utf8 h few most in in_range (primary_with namespace prefix m moved) valid single bounded numbers;
      primary_memory = λ namespace prefix m moved valid single bounded. memory_zero (primary_with namespace prefix m moved) valid single;
      secondary = λ names m moved own before namespace_in prefix_in h few most first valid single bounded.
          let numbers = secondary_numbers (laws c) names m moved own before namespace_in prefix_in h few most first in in_range (secondary_with names m moved own before) valid single bounded numbers;
      secondary_memory = λ names m moved own before valid single bounded. memory_zero (secondary_with names m moved own before) valid single;
    }
