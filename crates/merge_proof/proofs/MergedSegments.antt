-- The segments of the parts and those of the merged module are in the same order, and each is
-- copied to the same place; a segment that declares references has no partner.
use Rattle.base_lists.proofs.Common.{◌≡◌, ℕ, suc, List, [], ◌∷◌, ◌++◌, map, length, Some, refl, ap, ◌∙◌, arith, append_assoc, drop, slice_get, same_Some, slice_get_within, length-numbers, nat_tests, append-nil, length-map, drop_at, slice_index_is, numbers_at}
use Rattle.std.proofs.lemmas.List.{drop-drop}
use Rattle.wasm_tree_spec.specs.Prelude.{Space, Module, Tables, Memories, I32, ConstExpr}
use Rattle.wasm_meaning.specs.Prelude.{Inst, Part, module_at, Environment, PlacedSegment, segments_in, defined_before, numbers, insts_from}
use Rattle.wasm_meaning.specs.Counted.{EachPartAddsItsDefinitions, NothingIsDefinedBeforeTheFirst}
use Rattle.merge_spec.specs.Prelude.{by_part_from, merged_const, joined_module}
use Rattle.merge_spec.specs.Merged.{map_of}
use Rattle.world_simulation.specs.Prelude.{segments_by_part, InOrder, both, ends, only_second, offset_in, ElemsInOrder, DatasInOrder, one, Instantiated, values_in}
use Rattle.merge_proof.specs.AgreeingInstances.{SpaceAgrees, PartAgrees, InstancesAgree}
use Rattle.merge_proof.specs.SharedAddresses.{sharing}
use Rattle.wasm_valid.specs.Prelude.{const_type}
use Rattle.run_simulation.specs.Prelude.{Pairing}
use Rattle.merge_names.specs.declared.mode.Mode.{Mode}
use Rattle.merge_proof.specs.Joinable.{CanBeJoined}
use Rattle.world_simulation.proofs.RenumberedItems.{offset_same}
use Rattle.merge_proof.proofs.MergedInstances.{addresses_in, along}
use Rattle.merge_proof.proofs.MergedDefinitions.{Joins, all_join}
use Rattle.merge_proof.proofs.ValueLaws.{Laws, elem_holds, data_holds}
use Rattle.merge_proof.proofs.SharedPairing.{shares, names_one}
use Rattle.merge_proof.proofs.ConstantValues.{const_rel}
use Rattle.world_simulation.specs.SegmentsInOrder as segments

-- ---- segments of one kind, by part, and the same segments of one module ----

abbrev task : {A : Type 0} → ℕ → Inst → ℕ → A → PlacedSegment A
task p i a x = record { part = p; inst = i; address = a; segment = x }

module _ {env : Environment} {parts : List Part} {insts js : List Inst} (agree : InstancesAgree env parts insts js) {mode : Mode} {k : Space} {A : Type 0} {segs : Module → List A} {new : ℕ → Module → A → A} {more : List A}
    (joins : Joins parts mode k segs new more) (partners : PlacedSegment A → PlacedSegment A → Type 0) (first second : PlacedSegment A → Type 0) where
  abbrev whole : Inst
  whole = agree.merged

  -- The segments of one part, each with an address that both lists have, followed by other
  -- segments.
  module _ (p : ℕ) (i : Inst) (become : A → A) (rest : List (PlacedSegment A)) (behind : List A) (left : List ℕ) (then : InOrder partners first second rest (segments_in 0 whole left behind)) where
    in_part : (xs ys : List ℕ) (es : List A) → drop (length es) ys ≡ left → ((n : ℕ) (e : A) → slice_get es n ≡ Some e → (a : ℕ) × (slice_get xs n ≡ Some a) × (slice_get ys n ≡ Some a) × partners (task p i a e) (task 0 whole a (become e))) →
        InOrder partners first second (segments_in p i xs es ++ rest) (segments_in 0 whole ys (map become es ++ behind))
    in_part (x ∷ xs) (y ∷ ys) (e ∷ es) at each = let s = each 0 e refl in rw (same_Some x s.0 s.1, same_Some y s.0 s.2) (both s.3 (in_part xs ys es at (λ n. each (suc n))))
    in_part [] ys [] at each = rw at then
    in_part (x ∷ xs) ys [] at each = rw at then
    in_part _ _ (e ∷ es) at each = let s = each 0 e refl in cc

  -- If no segment of a part is left, each segment that is left of the merged module has no partner.
  rest_alone : (ns : List ℕ) (es : List A) → ((n l : ℕ) (e : A) → slice_get es l ≡ Some e → second (task 0 whole n e)) → InOrder partners first second [] (segments_in 0 whole ns es)
  rest_alone (n ∷ ns) (e ∷ es) h = only_second (h n 0 e refl) (rest_alone ns es (λ n l. h n (suc l)))
  rest_alone _ _ h = ends

  -- The segments of a part follow, in the merged module, those of the parts before it, with the
  -- addresses that they have in the parts' world, and each has its partner.
  all_in_order : NothingIsDefinedBeforeTheFirst → EachPartAddsItsDefinitions → ((n l : ℕ) (e : A) → slice_get more l ≡ Some e → second (task 0 whole n e)) →
      ((p : ℕ) (m : Module) (i : Inst) → module_at parts p ≡ Some m → PartAgrees env parts p m i whole → SpaceAgrees env parts k (addresses_in k i) (addresses_in k whole) (numbers (defined_before k parts p) (length (segs m)))
      × ((x a : ℕ) (e : A) → slice_get (segs m) x ≡ Some e → (sharing env parts).of k a a → partners (task p i a e) (task 0 whole a (new p m e)))) →
      InOrder partners first second (segments_by_part segs (addresses_in k) 0 parts insts) (segments_in 0 whole (addresses_in k whole) (segs (joined_module parts mode)))
  all_in_order none_before before_next last each = rw joins.is (rw (none_before k parts) at (along agree
      (λ p rest is. InOrder partners first second (segments_by_part segs (addresses_in k) p rest is)
      (segments_in 0 whole (drop (defined_before k parts p) (addresses_in k whole)) (by_part_from (λ p m. map (new p m) (segs m)) p rest ++ more)))
      (λ p is. rest_alone _ more last)
      (λ p part i rest is at a then.
      let m = part.«module» in
      let s = each p m i at a in
      rw append_assoc (in_part p i (new p m) _ _ _ then (addresses_in k i) _ (segs m) (grind (arith, drop-drop, joins.counts m, before_next k parts p m at)) (λ x e h.
      let low = slice_get_within (segs m) x e h in
      let t = s.0.each x (rw length-numbers low) in
      (t.address, t.first, rw (drop_at, ← slice_index_is _ x _ (numbers_at (defined_before k parts p) _ x low)) t.second, s.1 x t.address e h (shares env parts k t.address t.shared)))))))

-- ---- a segment of a part ----

module _ (laws : Laws) (env : Environment) (parts : List Part) (mode : Mode) (can : CanBeJoined parts mode) (insts js : List Inst) (agree : InstancesAgree env parts insts js) (are : insts_from env (one (joined_module parts mode)) 0 (one (joined_module parts mode)) ≡ Some js) where
  abbrev R : Pairing
  R = sharing env parts

  abbrev v : Instantiated
  v = record { parts = parts; insts = insts }

  abbrev w : Instantiated
  w = record { parts = one (joined_module parts mode); insts = js }

  offset_is : (p : ℕ) (m : Module) → module_at parts p ≡ Some m → (e : ConstExpr) → const_type m e ≡ Some I32 → offset_in (values_in env v p) e ≡ offset_in (values_in env w 0) (merged_const parts p e)
  offset_is p m is e t = rw agree.alone (offset_same R (const_rel laws env parts mode can insts agree.merged agree.each (are ∙ ap Some agree.alone) p m e I32 is t))

  pub elems_in_order : ElemsInOrder R env v w
  unfolding map_of
  elems_in_order = rw (laws.elems_listed 0 parts insts, agree.alone, append-nil)
      (all_in_order agree (all_join parts mode).elems _ _ _ laws.none_before laws.before_next
      -- A segment that declares references has no partner.
      (λ n l e h. grind (arith, segments.ElemAlone.declarative))
      (λ p m i is k. (
        k.elems,
        λ x a e h r. grind (
          arith,
          nat_tests,
          slice_get_within,
          length-map,
          length-numbers,
          elem_holds laws m (can.valid p m is) x e h,
          segments.ElemsPartner.active,
          segments.ElemsPartner.passive,
          segments.ElemsPartner.declarative,
          names_one env parts Tables k.tables,
          offset_is p m is,
        ),
      )))

  pub datas_in_order : DatasInOrder R env v w
  unfolding map_of
  datas_in_order = rw (laws.datas_listed 0 parts insts, agree.alone, append-nil)
      (all_in_order agree (all_join parts mode).datas _ _ _ laws.none_before laws.before_next
      (λ n l e h. cc)
      (λ p m i is k. (
        k.datas,
        λ x a d h r. grind (
          arith,
          nat_tests,
          length-map,
          length-numbers,
          data_holds laws m (can.valid p m is) x d h,
          segments.DatasPartner.active,
          segments.DatasPartner.passive,
          names_one env parts Memories k.mems,
          offset_is p m is,
        ),
      )))
