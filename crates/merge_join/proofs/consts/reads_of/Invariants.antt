use Rattle.base_lists.proofs.Common.{◌≡◌, map, take}
use Rattle.wasm_tree_spec.specs.Prelude.{Globals}
use Rattle.wasm_meaning.specs.Prelude.{has_kind, places}
use Rattle.merge_spec.specs.Prelude.{named_modules, read_at}
use Rattle.merge_join.specs.LinkedParts.{site}
use Rattle.merge_join.proofs.consts.reads_of.Given as goal

abbrev pub invariant-loop-place : goal.invariant-loop-place
invariant-loop-place l = l.reads ≡ map (λ n. read_at (named_modules l.joining.parts.now) (site l.part n)) (places (has_kind Globals) (take l.place l.imports) 0)
