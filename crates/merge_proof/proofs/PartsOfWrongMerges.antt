-- The parts of the wrong merges can be joined, so that the law `merged_module_equivalent` applies
-- to them: a merge that gives a wrong module breaks it.
use Rattle.base_lists.proofs.Common.{◌≡◌, ◌∙◌, refl, sym, subst, ℕ, List, [], ◌∷◌, Some, None, arith, true, ◌+◌, ◌<◌, ◌^◌, unwrap_or, option_map}
use Rattle.wasm_tree.specs.declared.types.ValType.TheVariants as valt
use Rattle.wasm_tree_spec.specs.Prelude.{roll-out-Instr, items_shown-the_row-Instr-0, end_of-Instr, more_of-Instr, Loop', Module, Space}
use Rattle.wasm_tree.specs.declared.instr.Instr.TheVariants as i
use Rattle.wasm_tree.specs.declared.types.BlockType.TheVariants as bt
use Rattle.wasm_tree.specs.declared.instr.Instr.TheViews.{outs-Loop', rolls-Loop}
use Rattle.wasm_valid.specs.Prelude.{IsValid}
use Rattle.wasm_meaning.specs.Prelude.{Text, Part, sites, count_of, defined_before, linked_end}
use Rattle.merge_names.specs.declared.mode.Mode.{Mode}
use Rattle.merge_names.specs.declared.mode.Mode.TheVariants as mode
use Rattle.merge_spec.specs.Prelude.{imports_kind, FewInAll, link_fault, named_modules, by_import, end_entry, read_at}
use Rattle.merge_spec.specs.declared.links.End.TheVariants.{Outside}
use Rattle.merge_spec.specs.Merged.{all_exports}
use Rattle.merge_spec.specs.Joined.{repeated_name, most_added}
use Rattle.module_limits.specs.Counts.{over_limit}
use Rattle.merge_spec.specs.declared.parts.Part as given
use Rattle.merge_spec.specs.declared.links.Links.{Links}
use Rattle.merge_spec.specs.Faults.{kept_limits}
use Rattle.merge_spec.specs.Linked.{AreLinks}
use Rattle.merge_proof.specs.Joinable.{EachPart, CanBeJoined}
use Rattle.merge_proof.specs.MergeEquivalence.{ObservationallyEquivalent}
use Rattle.merge_proof.proofs.WrongMerges.{f, g, starting, calling, one_memory_from, never_ending, Example, two_starts, two_types, one_memory, no_end, case, given_as, parts_of, no_fault, joins, Mistake, wrong, mistakes_are_refused}

-- ---- shared definitions ----

-- A property of the two modules of an example holds of each of its parts.
of_both : (P : Module → Type 0) (e : Example) → P (case e).first × P (case e).second → EachPart P (parts_of e)
of_both P e both p m is = grind arith

-- The statement of the law `merged_module_equivalent`, for this merge in the place of
-- `joined_module`.
abbrev HasEqualTraces : (List Part → Mode → Module) → Type 0
HasEqualTraces merge = (parts : List Part) (how : Mode) → CanBeJoined parts how → ObservationallyEquivalent parts how (merge parts how)

-- No merge that gives this module for these parts satisfies the law.
abbrev BreaksTheLaw : List Part → Module → Type 0
BreaksTheLaw parts wrong = (merge : List Part → Mode → Module) → merge parts mode.Refuse ≡ wrong → HasEqualTraces merge → ⊥

-- The premises of `join` hold of the parts and their links, so `join` must give a module for them.
-- A body that gives this module breaks the clause `same`, since the module is not equivalent to the
-- parts.
record BreaksTheClause (given : List given.Part) (wrong : Module) : Type 0 where
  joinable : CanBeJoined (named_modules given) mode.Refuse
  links : Links
  are : AreLinks (named_modules given) links
  linked : link_fault (named_modules given) true ≡ None
  few : FewInAll (named_modules given)
  refused : ObservationallyEquivalent (named_modules given) mode.Refuse wrong → ⊥

-- The module that this mistake gives breaks both the law and the clause.
abbrev Breaks : Mistake → Type 0
Breaks w = BreaksTheLaw (parts_of (wrong w).parts) (wrong w).tree × BreaksTheClause (given_as (wrong w).parts) (wrong w).tree

-- ---- computed links and counts ----

-- The links of parts whose imports all have an end. In the examples each staying import is its own
-- end, without limits and with nothing read; only the two imports of one memory both end at the
-- first, which keeps the greater minimum.
abbrev links_of : List Part → Links
links_of parts = record {
  ends = by_import (λ s. unwrap_or (option_map end_entry (linked_end parts s)) (Outside 0 0)) parts;
  limits = by_import (kept_limits parts) parts;
  reads = by_import (read_at parts) parts;
}

are_links : (e : Example) → AreLinks (parts_of e) (links_of (parts_of e))
are_links e = grind arith

-- The entities of each kind that are imported, defined and at most added are fewer than 2 ^ 32.
few : (e : Example) (k : Space) → count_of (imports_kind (parts_of e) k) (sites (parts_of e)) + (defined_before k (parts_of e) 2 + most_added k) < 2 ^ 32
few e k = grind arith

-- ---- the parts are valid ----

-- The items of the module: its import, its function, its start and the body of the function.
starting_is_valid : (field : Text) → IsValid (starting field)
starting_is_valid field = ((_, refl, omega arith), ((_, refl, omega arith), ((_, _, refl, refl, refl, refl), ((_, _, refl, refl, ([], (_, (_, refl, ([], _, refl, tt, refl)), refl), tt)), tt))))

-- The items of the module: its import, its function, its table, its start, its element segment,
-- whose one item is a function, and the body of the function, with one operand after the first of
-- its four instructions, and then two, one and none.
calling_is_valid : IsValid calling
calling_is_valid = (
  (_, refl, omega arith),
  (
    (_, refl, omega arith),
    (
      (_, refl, omega arith),
      (
        (_, _, refl, refl, refl, refl),
        (
          (_, refl, λ n e is. grind arith, (refl, refl)),
          (
            (
              _,
              _,
              refl,
              refl,
              ([], (_, (_, refl, ([], _, refl, tt, refl)), (_, (_, refl, ([], _, refl, tt, refl)), (_, (_, refl, (Some valt.I32 ∷ [], _, refl, (refl, tt), refl)), (_, (_, refl, (_, refl)), refl)))), tt),
            ),
            tt,
          ),
        ),
      ),
    ),
  ),
)

-- The items of the module: its function, its start and the body of the function.
never_ending_is_valid : IsValid never_ending
never_ending_is_valid =
    let is : Loop' bt.Empty (_ ∷ []) (more_of-Instr (i.Br 0) end_of-Instr) ≡ i.Loop bt.Empty (i.Br 0 ∷ []) = sym (roll-out-Instr (Loop' bt.Empty (_ ∷ []) (more_of-Instr (i.Br 0) end_of-Instr))) ∙ simp (outs-Loop', rolls-Loop, items_shown-the_row-Instr-0) in
    rw (← is)
    ((_, refl, omega arith), ((_, _, refl, refl, refl, refl), ((_, _, refl, refl, ([], ([], (_, refl, ([], ([], (_, refl, ([], _, refl, tt)), refl), tt), ([], [], refl, tt, refl)), refl), tt)), tt)))

memory_is_valid : (n : ℕ) → n < 2 → IsValid (one_memory_from n)
memory_is_valid n few = ((_, refl, (tt, omega arith, tt)), tt)

valid : (e : Example) → EachPart IsValid (parts_of e)
valid two_starts = of_both IsValid two_starts (starting_is_valid f, starting_is_valid g)
valid two_types = of_both IsValid two_types (tt, calling_is_valid)
valid one_memory = of_both IsValid one_memory (memory_is_valid 0 (omega arith), memory_is_valid 1 (omega arith))
valid no_end = of_both IsValid no_end (never_ending_is_valid, tt)

-- ---- the parts can be joined ----

can_be_joined : (e : Example) → CanBeJoined (parts_of e) mode.Refuse
unfolding repeated_name all_exports over_limit
can_be_joined e = record { valid = valid e; bounded = λ p m is. grind arith; linked = no_fault e; names = grind arith; sizes = rw (joins e) (grind arith) }

-- Each mistake breaks the law and the clause.
breaks : (w : Mistake) → Breaks w
breaks w =
    let e = (wrong w).parts in (
      λ merge gives law. mistakes_are_refused w (subst (ObservationallyEquivalent (parts_of e) mode.Refuse) gives (law (parts_of e) mode.Refuse (can_be_joined e))),
      record { joinable = can_be_joined e; links = links_of (parts_of e); are = are_links e; linked = no_fault e; few = record { parts_few = omega arith; entries = few e }; refused = mistakes_are_refused w },
    )
