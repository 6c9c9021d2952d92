use Rattle.std.proofs.Common.{◌≡◌, drop}
use Rattle.base_kept.specs.Marks.{marked_all}
use Rattle.wasm_valid.specs.Named.{elem_refs}
use Rattle.wasm_valid.proofs.named.mark_elems.Given as goal

abbrev pub invariant-loop-segment : goal.invariant-loop-segment
invariant-loop-segment l =
    marked_all l.marks.items (elem_refs (drop l.segment-index l.elems)) ≡ marked_all l.initial.marks.items (elem_refs l.elems)
