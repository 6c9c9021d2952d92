use Rattle.std.proofs.Common.{◌≡◌, ◌++◌, take}
use Rattle.wasm_tree.specs.Spaces.{imported_funcs}
use Rattle.split_slots.proofs.types.add_imported.Given as goal

abbrev pub invariant-loop-import : goal.invariant-loop-import
invariant-loop-import l = l.all ≡ l.initial.all ++ imported_funcs (take l.import-index l.imports)
