-- The premises of the sequential run on stores into which the segments of the first parts were
-- copied.
use Rattle.base_lists.proofs.Common.{◌≡◌, ◌∙◌, refl, sym, ap, ℕ, zero, suc, ◌+◌, ◌-◌, List, length, Some, false, arith}
use Rattle.wasm_tree_spec.specs.Prelude.{Module}
use Rattle.wasm_meaning.specs.Prelude.{Text, Inst, Store, module_at, Environment, ExternalValue, World, own_store, stores_from, joined_stores, all_there, seen_as, segments, StartDependsOnlyOnItsFrames}
use Rattle.run_simulation.specs.Prelude.{CodeIsRelatedToItself, RelatedTicksAgree, OthersStay}
use Rattle.merge_proof.proofs.ExtensionLaws.{ExtensionLaws}
use Rattle.merge_proof.proofs.PartTurns.{IsGiven}
use Rattle.merge_proof.proofs.BeforeFirstStart.{FillLaws}
use Rattle.merge_proof.proofs.StoresByPart.{rest_from, rest_last, rest_next, inst_there}
use Rattle.merge_proof.proofs.PartInstantiation.{EachMatches, each_matches}
use Rattle.merge_proof.proofs.PartStores.{Constants}
use Rattle.merge_proof.proofs.SegmentsInTurn
use Rattle.merge_proof.proofs.SegmentsInTurn.{FilledUpto}
use Rattle.merge_proof.proofs.NextSegments
use Rattle.merge_proof.proofs.StoreLayout

module _ (env : Environment) (w : World) (insts : List Inst) (allocated : Store) (g : IsGiven env w insts allocated) (stores_are : stores_from env w.parts insts (own_store env) 0 w.parts insts ≡ Some allocated) (well : (segments env w.parts insts allocated).trapped ≡ false)
    (constants : (k : ℕ) (m : Module) → module_at w.parts k ≡ Some m → Constants m) where
  -- The store that the remaining parts add is the same in every layout of the allocated store.
  rest_same : (n k : ℕ) → n + k ≡ length w.parts → rest_from env w.parts insts k ≡ g.laid.rest k
  rest_same zero k e =
      let last : k ≡ length w.parts = omega arith in
      rw (last, rest_last env w.parts insts) (sym g.laid.rest_end)
  rest_same (suc n) k e =
      let x = inst_there env w.parts insts allocated stores_are g.size k (omega arith) in
      let added = g.laid.part_adds k x.0 x.1 x.2 x.3 in
      rw (rest_next env w.parts insts k x.0 x.1 (g.laid.adds k) x.2 x.3 added, rest_same n (suc k) (omega arith)) (sym (g.laid.rest_next k x.0 x.2))

  each : EachMatches env w.parts allocated
  each = each_matches env w.parts allocated g.listed g.matched

  pub fill_laws : (itself : CodeIsRelatedToItself) (below : StartDependsOnlyOnItsFrames) (extend : ExtensionLaws) (ticks : RelatedTicksAgree) (others : OthersStay) (view : List (Text × ExternalValue)) (view_is : all_there (seen_as insts) w.view ≡ Some view) →
      FillLaws env w insts allocated g itself below extend ticks others view view_is (FilledUpto env w.parts insts allocated)
  fill_laws itself below extend ticks others view view_is = record {
    filled_none = SegmentsInTurn.filled_none env w.parts insts allocated stores_are g.size;
    filled_next = λ k m i t is_part is_inst h.
        let n = NextSegments.filled_next env w.parts insts g.are allocated stores_are each g.size g.exports g.earlier k m i is_part is_inst t (g.laid.adds k) (g.laid.part_adds k m i is_part is_inst) h (constants k m is_part) well in
        rw n.is (refl, n.filled);
    filled_all = λ k t l h none.
        let n : length w.parts - k + k ≡ length w.parts = omega arith in
        ap (λ f. f.store) (SegmentsInTurn.filled_all env w.parts insts allocated stores_are g.size k t l h none) ∙ ap (joined_stores t) (rest_same (length w.parts - k) k n);
    filled_sized = λ k t l h. StoreLayout.filled_sized env w.parts insts g.are allocated stores_are each g.size g.exports g.earlier k t h;
  }
