use Rattle.base_lists.proofs.Common.{◌≡◌, length, take, filter, filter_map}
use Rattle.wasm_meaning.specs.Prelude.{sites_in}
use Rattle.merge_spec.specs.Prelude.{named_modules, stays, by_part_from, merged_import}
use Rattle.merge_join.proofs.imports.merged_imports.Given as goal

abbrev pub invariant-loop-part : goal.invariant-loop-part
invariant-loop-part l =
    l.all ≡ by_part_from (λ p m. filter_map (merged_import (named_modules l.joining.parts.now)) (filter (stays (named_modules l.joining.parts.now)) (sites_in p (length m.imports) 0))) 0
    (take l.part (named_modules l.joining.parts.now))
