use Rattle.std.proofs.Common.{◌≡◌, ◌++◌, map, drop, slice_get}
use Rattle.wasm_tree.specs.Spaces.{funcs_of, imported_funcs}
use Rattle.wasm_tree.proofs.module.Module.type_index.Given as goal

-- The function looked for is at the place `left` of those that the loop has not yet passed.
abbrev pub invariant-loop-import : goal.invariant-loop-import
invariant-loop-import l =
    slice_get (funcs_of l.self) l.func ≡ slice_get (imported_funcs (drop l.import-index l.self.imports) ++ map (λ f. f.ty) l.self.funcs) l.left
