use Rattle.base_lists.proofs.Common.{take, flat_map}
use Rattle.wasm_valid.specs.Prelude.{EachHolds, span, count_of, order}
use Rattle.wasm_valid.proofs.first.first_invalid.Given as goal

abbrev pub invariant-loop-kind : goal.invariant-loop-kind
invariant-loop-kind l = EachHolds l.module (flat_map (λ k. span k 0 (count_of l.module l.many k)) (take l.kind-index order))
