-- A world that begins well satisfies the premises of the lemmas on the sequential run, and so has
-- equal traces.
use Rattle.base_lists.proofs.Common.{◌≡◌, ◌∙◌, sym, ap, ap₂, ℕ, List, [], Some, true, arith, and_then_is, same_Some, inl, inr, cond_is, each_same_is}
use Rattle.wasm_tree_spec.specs.Prelude.{ValType, FuncType, same_type, same_func_type, Module, type_of_func}
use Rattle.wasm_valid.specs.declared.kinds.ItemKind.TheVariants as kind
use Rattle.wasm_valid.specs.Prelude.{IsValid, start_count, ValidWhereItemsHold}
use Rattle.wasm_meaning.specs.Prelude.{Text, Inst, Store, sites, Environment, ExternalValue, all_of, World, Begun, own_store, insts_from, stores_from, seen_as, all_there, is_matched, segments, begun, instantiate, StartDependsOnlyOnItsFrames}
use Rattle.run_simulation.specs.Prelude.{CodeIsRelatedToItself, RelatedTicksAgree, OthersStay}
use Rattle.world_simulation.specs.Prelude.{OwnEntitiesCorrespond, AllocatedStoresHaveDefinitions, EachPartHasAnInstance, IndicesNameImportsOrDefinitions, SpacesAreImportsAndDefinitions}
use Rattle.wasm_meaning.specs.Counted.{EachPartAddsItsDefinitions, FoundExportsAreThere}
use Rattle.merge_proof.specs.ImportEnds.{SitesAreImports}
use Rattle.merge_proof.specs.SequentialEquivalence.{SequentialInstantiationIsEquivalent}
use Rattle.merge_proof.proofs.ExtensionLaws.{ExtensionLaws}
use Rattle.merge_proof.proofs.StartSteps.{nothing_to_nothing}
use Rattle.merge_proof.proofs.PartInstantiation.{SitesThere, each_matches}
use Rattle.merge_proof.proofs.PartTurns.{IsGiven}
use Rattle.merge_proof.proofs.NullaryStarts.{func_there}
use Rattle.merge_proof.proofs.SequentialTraces.{seen_the_same}
use Rattle.merge_proof.proofs.SegmentsInTurn.{FilledUpto, none_active}
use Rattle.merge_proof.proofs.StoreLayout.{laid, store_same}
use Rattle.merge_proof.proofs.ValidParts.{valid_constants, valid_exports}
use Rattle.merge_proof.proofs.CopiedStores.{fill_laws}
use Rattle.merge_proof.proofs.PartLaws.{Instances}

-- A function type without parameters and results is the type of a start.
plain_type : (t : FuncType) → t.params ≡ [] → t.results ≡ [] → t ≡ nothing_to_nothing
plain_type t e f = ap₂ {A = List ValType} {B = List ValType} {C = FuncType} (λ ps rs. record { params = ps; results = rs }) e f

-- The instances and the store of an instantiated world.
record Instantiated (env : Environment) (w : World) (b : Begun) : Type 0 where
  insts : List Inst
  allocated : Store
  view : List (Text × ExternalValue)
  are : insts_from env w.parts 0 w.parts ≡ Some insts
  stores_are : stores_from env w.parts insts (own_store env) 0 w.parts insts ≡ Some allocated
  view_is : all_there (seen_as insts) w.view ≡ Some view
  matched : all_of (is_matched env w.parts allocated) (sites w.parts) ≡ true
  is : begun env w insts view (segments env w.parts insts allocated) ≡ b

instantiated : (env : Environment) (w : World) (b : Begun) → instantiate env w ≡ Some b → Instantiated env w b
instantiated env w b h =
    let i = and_then_is (insts_from env w.parts 0 w.parts) _ b h in
    let s = and_then_is (stores_from env w.parts i.0 (own_store env) 0 w.parts i.0) _ b i.2 in
    let v = and_then_is (all_there (seen_as i.0) w.view) _ b s.2 in
    elim (cond_is (all_of (is_matched env w.parts s.0) (sites w.parts)) _ _ _ v.2) [
      | inl c ↦ record { insts = i.0; allocated = s.0; view = v.0; are = i.1; stores_are = s.1; view_is = v.1; matched = c.0; is = same_Some _ _ c.1 }
      | inr c ↦ let none = c.1 in cc
    ]

module _ (items : ValidWhereItemsHold) (below : StartDependsOnlyOnItsFrames) (extend : ExtensionLaws) (itself : CodeIsRelatedToItself) (ticks : RelatedTicksAgree) (others : OthersStay) (own : OwnEntitiesCorrespond) (listed : SitesAreImports)
    (part_instances : EachPartHasAnInstance) (spaces : SpacesAreImportsAndDefinitions) (names : IndicesNameImportsOrDefinitions) (placed : AllocatedStoresHaveDefinitions) (next : EachPartAddsItsDefinitions) (exported : FoundExportsAreThere) where
  -- The start of a valid module takes and gives nothing.
  start_type : (m : Module) (x : ℕ) → IsValid m → m.start ≡ Some x → type_of_func m x ≡ Some nothing_to_nothing
  start_type m x valid e =
      let h = (items m).0 valid kind.Start 0 (omega (arith, ap start_count e)) in
      rw (← same_Some _ _ (sym h.2 ∙ e), h.3, plain_type h.1 h.4 h.5)

  pub turns_not_seen : SequentialInstantiationIsEquivalent
  turns_not_seen w valid some earlier late env is_env begins moves n =
      let b = begins.0 in
      let k = instantiated env w b begins.1 in
      let each_inst = part_instances env w.parts 0 w.parts k.insts k.are in
      let size = each_inst.size in
      let are : Instances env w.parts k.insts = record { are = k.are; each = each_inst; spaces = spaces; names = names; placed = placed; next = next } in
      let same_types : (s t : FuncType) → same_func_type s t ≡ true → s ≡ t = λ s t h. grind (arith, each_same_is same_type (λ a b e. grind arith)) in
      let exports = valid_exports items exported w.parts valid in
      let there : SitesThere w.parts = λ s. (listed w.parts s).1 in
      let each = each_matches env w.parts k.allocated there k.matched in
      let fine = ap (λ b. b.trapped) k.is ∙ begins.2 in
      let layout = laid env w.parts k.insts are k.allocated k.stores_are each size exports earlier in
      let given : IsGiven env w k.insts k.allocated = record {
        laid = layout;
        are = are;
        size = size;
        exports = exports;
        earlier = earlier;
        late = late;
        own = own;
        listed = there;
        matched = k.matched;
        starts = λ p x m i is_part at_inst e.
            let f = func_there same_types itself env w.parts k.insts are size earlier there k.allocated layout k.matched p x m i nothing_to_nothing is_part at_inst (start_type m x (valid p m is_part) e) in
            (f.address, f.func, f.named, f.there, f.type);
        store_is = λ p m i t is_part at_inst holds. store_same env w.parts k.insts are k.allocated k.stores_are each size exports earlier p m i t (valid_constants items m (valid p m is_part)) is_part at_inst holds;
        no_segments = none_active;
      } in
      let laws = fill_laws env w k.insts k.allocated given k.stores_are fine (λ p m is_part. valid_constants items m (valid p m is_part)) itself below extend ticks others k.view k.view_is in
      let seen = seen_the_same env w k.insts k.allocated given itself below extend ticks others k.view k.view_is (FilledUpto env w.parts k.insts k.allocated) laws fine moves some n in
      rw (begins.1, ← k.is) seen
