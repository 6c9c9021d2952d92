-- The stores of parts that are instantiated sequentially, as long as no code has run: the layout of
-- the allocated store, and the entities that a part adds.
use Rattle.merge_proof.proofs.PartLaws.{Instances}
use Rattle.base_lists.proofs.Common.{◌≡◌, refl, ℕ, List, length, Some, slice_get}
use Rattle.wasm_tree_spec.specs.Prelude.{Module}
use Rattle.wasm_meaning.specs.Prelude.{Inst, Store, Part, module_at, Environment, own_store, stores_from, part_store, store_with, const_value, JoinsEarlier}
use Rattle.merge_proof.proofs.JoinedImports.{ExportsThere}
use Rattle.merge_proof.proofs.PartInstantiation.{Sized, Holds, EachMatches}
use Rattle.merge_proof.proofs.SideBySideStores.{Laid}
use Rattle.merge_proof.proofs.StoresByPart.{or_no_store, added_at, added_is, rest_from, rest_at, rest_last, first_stores, first_parts, part_adds}
use Rattle.merge_proof.proofs.PartStores.{Constants, added_same}
use Rattle.merge_proof.proofs.SegmentsInTurn.{FilledUpto}

-- ---- sequential stores ----

module _ (env : Environment) (parts : List Part) (insts : List Inst) (are : Instances env parts insts) (allocated : Store) (stores_are : stores_from env parts insts (own_store env) 0 parts insts ≡ Some allocated) (matched : EachMatches env parts allocated) (size : length insts ≡ length parts)
    (there : ExportsThere parts) (earlier : JoinsEarlier parts) where
  pub adds_at : (k : ℕ) (m : Module) (i : Inst) → module_at parts k ≡ Some m → slice_get insts k ≡ Some i → part_store env parts insts k m i ≡ Some (or_no_store (added_at env parts insts k))
  adds_at k m i is_part is_inst = let a = part_adds env parts insts allocated stores_are size k m i is_part is_inst in rw (added_is env parts insts k m i a.0 is_part is_inst a.1) a.1

  -- The layout of the store of all parts at once.
  abbrev pub laid : Laid env parts insts allocated
  laid = record {
    defined_next = are.next;
    first = first_stores env parts insts;
    adds = λ k. or_no_store (added_at env parts insts k);
    rest = rest_from env parts insts;
    first_none = refl;
    first_sized = λ k l. (first_parts env parts insts allocated stores_are size are.next k l).lengths;
    parted = λ k l. (first_parts env parts insts allocated stores_are size are.next k l).whole;
    first_next = λ k m is_part. refl;
    rest_next = rest_at env parts insts;
    rest_end = rest_last env parts insts;
    part_adds = adds_at;
  }

  -- The entities that a part adds in its turn.
  pub store_same : (k : ℕ) (m : Module) (i : Inst) (t : Store) → Constants m → module_at parts k ≡ Some m → slice_get insts k ≡ Some i → Holds env parts k allocated t → store_with (const_value t.globals i) m i ≡ Some (laid.adds k)
  store_same k m i t c is_part is_inst h =
      added_same env parts insts are allocated stores_are matched size there earlier k m i is_part is_inst c t (λ a g low at fixed. let y = h.globals a g low at in (y.0, y.1, y.2.fixed fixed)) (laid.adds k) (adds_at k m i is_part is_inst)

  -- The store after the segments of the first parts has as many entities as these parts.
  pub filled_sized : (k : ℕ) (t : Store) → FilledUpto env parts insts allocated k t → Sized env parts k t
  filled_sized k t h = h.lengths
