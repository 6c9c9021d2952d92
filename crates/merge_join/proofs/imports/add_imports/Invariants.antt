use Rattle.base_lists.proofs.Common.{◌≡◌, ◌++◌, filter, filter_map}
use Rattle.wasm_meaning.specs.Prelude.{sites_in}
use Rattle.merge_spec.specs.Prelude.{named_modules, stays, merged_import}
use Rattle.merge_join.proofs.imports.add_imports.Given as goal

abbrev pub invariant-loop-place : goal.invariant-loop-place
invariant-loop-place l =
    l.all ≡ l.initial.all ++ filter_map (merged_import (named_modules l.joining.parts.now)) (filter (stays (named_modules l.joining.parts.now)) (sites_in l.part l.place 0))
