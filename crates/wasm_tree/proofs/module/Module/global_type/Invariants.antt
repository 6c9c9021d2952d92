use Rattle.std.proofs.Common.{◌≡◌, ◌++◌, map, drop, slice_get}
use Rattle.wasm_tree.specs.Spaces.{globals_of, imported_globals}
use Rattle.wasm_tree.proofs.module.Module.global_type.Given as goal

-- The global looked for is at the place `left` of those that the loop has not yet passed.
abbrev pub invariant-loop-import : goal.invariant-loop-import
invariant-loop-import l =
    slice_get (globals_of l.self) l.global ≡ slice_get (imported_globals (drop l.import-index l.self.imports) ++ map (λ g. g.ty) l.self.globals) l.left
