use Rattle.base_lists.proofs.Common.{◌+◌, ◌≡◌}
use Rattle.wasm_tree_spec.specs.Prelude.{Memories}
use Rattle.wasm_meaning.specs.Linking as linking
use Rattle.wasm_meaning.specs.World as world
use Rattle.merge_spec.specs.Prelude.{named_modules}
use Rattle.merge_link.proofs.part_tables.PartTables.are_more_than_one.Given as goal

abbrev pub invariant-loop-part : goal.invariant-loop-part
invariant-loop-part l = l.count ≡ l.staying + world.defined_before Memories (named_modules l.self.parts.now) l.part-index
