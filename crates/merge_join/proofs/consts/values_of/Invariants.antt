use Rattle.std.proofs.Common.{◌≡◌, take, length}
use Rattle.wasm_tree.specs.Spaces.{imported_globals}
use Rattle.merge_spec.specs.Parts.{named_modules}
use Rattle.merge_join.proofs.Values.{Denotes}
use Rattle.merge_join.proofs.consts.values_of.Given as goal

abbrev pub invariant-loop-import : goal.invariant-loop-import
invariant-loop-import l =
    (l.global ≡ length (imported_globals (take l.import-index l.import-items)))
    × (length l.values ≡ l.global)
    × Denotes (named_modules l.joining.parts.now) l.part l.global l.values
