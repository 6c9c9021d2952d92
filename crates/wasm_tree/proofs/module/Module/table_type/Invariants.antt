use Rattle.std.proofs.Common.{◌≡◌, ◌++◌, drop, slice_get}
use Rattle.wasm_tree.specs.Spaces.{tables_of, imported_tables}
use Rattle.wasm_tree.proofs.module.Module.table_type.Given as goal

-- The table looked for is at the place `left` of those that the loop has not yet passed.
abbrev pub invariant-loop-import : goal.invariant-loop-import
invariant-loop-import l =
    slice_get (tables_of l.self) l.table ≡ slice_get (imported_tables (drop l.import-index l.self.imports) ++ l.self.tables) l.left
