use Rattle.base_lists.proofs.Common.{◌≡◌, ◌∙◌, sym, subst, List, None, Ok, true}
use Rattle.wasm_tree_spec.specs.Prelude.{Module, IsBounded}
use Rattle.wasm_valid.specs.Prelude.{IsValid}
use Rattle.wasm_meaning.specs.Prelude.{Part}
use Rattle.merge_names.specs.declared.mode.Mode.{Mode}
use Rattle.merge_spec.specs.declared.parts.Part as declared
use Rattle.merge_spec.specs.Prelude.{link_fault, named_modules, linked_world, joined_module, repeated_name, Joins}
use Rattle.module_limits.specs.Counts.{over_limit}
use Rattle.merge_proof.specs.Joinable.{CanBeJoined}
use Rattle.merge_proof.specs.MergeEquivalence.{ObservationallyEquivalent}
use Rattle.merge_join.specs.LinkedParts.{PartsHold}
use Rattle.merge_join.proofs.Outcomes.{joined_from}
use Rattle.merge_join.proofs.merging.join.Goals as goal

-- If joining gives a tree, the parts can be joined and the tree is their merged module.
can_join : (ps : List Part) (mode : Mode) (tree : Module) → PartsHold ps → link_fault ps true ≡ None → Joins ps mode (Ok tree) → CanBeJoined ps mode × (joined_module ps mode ≡ tree)
can_join ps mode tree hold linked joins =
    let is = joined_from (repeated_name ps mode) (over_limit (joined_module ps mode)) (joined_module ps mode) tree joins in (
      record {
        valid = λ p m at. (hold p m at).0;
        bounded = λ p m at. (hold p m at).1;
        linked = linked;
        names = is.no_name;
        sizes = is.no_count;
      },
      is.same,
    )

held : (parts lent : List declared.Part) → lent ≡ parts → PartsHold (named_modules lent) → PartsHold (named_modules parts)
held parts lent is hold = subst (λ (ps : List declared.Part). PartsHold (named_modules ps)) is hold

pub joined_tree-requires : goal.joined_tree-requires
joined_tree-requires c = record {
  linked = record {
    links_are = c.requires.links;
    no_fault = c.requires.linked;
    few = c.requires.few;
    hold = held c.args.parts c.as_slice.result.now c.as_slice.ensures c.parts_hold.ensures;
  };
}

pub known-requires : goal.known-requires
known-requires c =
    let ps = named_modules c.args.parts in
    let mode = c.args.mode in
    let can = can_join ps mode c.in_ok-tree.tree (held c.args.parts c.as_slice.result.now c.as_slice.ensures c.parts_hold.ensures) c.requires.linked c.in_ok-tree.ensures.joined in
    record {
      valid = subst IsValid can.1 (c.merged_modules_are_valid.ensures.valid ps mode can.0);
      bounded = subst IsBounded can.1 (c.merged_modules_are_valid.ensures.bounded ps mode can.0);
    }

pub returns-clause-equivalent : goal.returns-clause-equivalent
returns-clause-equivalent c =
    let ps = named_modules c.args.parts in
    let mode = c.args.mode in
    let can = can_join ps mode c.in_ok-tree.tree (held c.args.parts c.as_slice.result.now c.as_slice.ensures c.parts_hold.ensures) c.requires.linked c.in_ok-tree.ensures.joined in
    subst (ObservationallyEquivalent ps mode) (can.1 ∙ sym c.known.ensures) (c.merged_module_equivalent.ensures.equivalent ps mode can.0)

pub returns-clause-sequential : goal.returns-clause-sequential
returns-clause-sequential c =
    let hold = held c.args.parts c.as_slice.result.now c.as_slice.ensures c.parts_hold.ensures in
    c.sequential_instantiation_equivalent.ensures.equivalent (linked_world (named_modules c.args.parts) c.args.mode) (λ p m at. (hold p m at).0)
