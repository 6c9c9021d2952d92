use Rattle.std.proofs.Common.{◌≡◌, ◌++◌, drop, slice_get}
use Rattle.wasm_tree.specs.Spaces.{memories_of, imported_memories}
use Rattle.wasm_tree.proofs.module.Module.memory_limits.Given as goal

-- The memory looked for is at the place `left` of those that the loop has not yet passed.
abbrev pub invariant-loop-import : goal.invariant-loop-import
invariant-loop-import l =
    slice_get (memories_of l.self) l.memory ≡ slice_get (imported_memories (drop l.import-index l.self.imports) ++ l.self.mems) l.left
