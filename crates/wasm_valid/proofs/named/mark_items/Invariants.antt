use Rattle.base_lists.proofs.Common.{◌≡◌, drop, filter_map}
use Rattle.base_kept.specs.Marks.{marked_all}
use Rattle.wasm_valid.specs.Prelude.{const_func}
use Rattle.wasm_valid.proofs.named.mark_items.Given as goal

abbrev pub invariant-loop-item : goal.invariant-loop-item
invariant-loop-item l =
    marked_all l.marks.items (filter_map const_func (drop l.item-index l.items)) ≡ marked_all l.initial.marks.items (filter_map const_func l.items)
