use Rattle.base_lists.proofs.Common.{◌∙◌, ap, ℕ, ◌+◌, length, nat_lt}
use Rattle.wasm_tree_spec.specs.Prelude.{Memories}
use Rattle.wasm_meaning.specs.Linking as linking
use Rattle.wasm_meaning.specs.World as world
use Rattle.merge_spec.specs.Prelude.{named_modules}
use Rattle.merge_link.proofs.Counts.{memories_counted}
use Rattle.merge_link.proofs.part_tables.PartTables.has_too_many_memories.Goals as goal

pub returns : goal.returns
returns c =
    let ps = c.args.self.now.parts.now in
    c.are_more_than_one.ensures ∙ ap (λ (n : ℕ). nat_lt 1 (n + world.defined_before Memories (named_modules ps) (length (named_modules ps)))) c.staying_memories.ensures ∙ ap (nat_lt 1) (memories_counted ps c.args.sites.now c.requires.sites)
