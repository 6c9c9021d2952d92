use Rattle.std.proofs.Common.{◌≡◌, take}
use Rattle.wasm_tree.proofs.copy.copy_imports.Given as goal

abbrev pub invariant-loop-import : goal.invariant-loop-import
invariant-loop-import l = l.all ≡ take l.import-index l.imports
