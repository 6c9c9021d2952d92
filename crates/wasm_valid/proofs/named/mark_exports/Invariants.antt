use Rattle.std.proofs.Common.{◌≡◌, drop}
use Rattle.base_kept.specs.Marks.{marked_all}
use Rattle.wasm_valid.specs.Named.{export_refs}
use Rattle.wasm_valid.proofs.named.mark_exports.Given as goal

abbrev pub invariant-loop-export : goal.invariant-loop-export
invariant-loop-export l =
    marked_all l.marks.items (export_refs (drop l.export-index l.exports)) ≡ marked_all l.initial.marks.items (export_refs l.exports)
