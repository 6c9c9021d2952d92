use Rattle.base_lists.proofs.Common.{drop, List, ℕ, ◌≡◌, get_by, nat_cmp, slice_cmp}
use Rattle.wasm_meaning.specs.Linking as linking
use Rattle.merge_link.proofs.tables.exported.Given as goal

abbrev pub invariant-loop-at : goal.invariant-loop-at
invariant-loop-at l = (name : List ℕ) → get_by (λ k. slice_cmp nat_cmp name k.now) l.map ≡ linking.export_named (drop l.at l.exports) name
