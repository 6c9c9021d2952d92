use Rattle.std.proofs.Common.{◌≡◌, drop}
use Rattle.base_kept.specs.Marks.{marked_all}
use Rattle.wasm_valid.specs.Named.{global_refs}
use Rattle.wasm_valid.proofs.named.mark_globals.Given as goal

abbrev pub invariant-loop-global : goal.invariant-loop-global
invariant-loop-global l =
    marked_all l.marks.items (global_refs (drop l.global-index l.globals)) ≡ marked_all l.initial.marks.items (global_refs l.globals)
