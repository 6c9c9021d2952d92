-- The states of both runs still correspond after a secondary module is loaded, with its functions
-- in their slots.
use Rattle.base_lists.proofs.Common.{◌≡◌, ◌∙◌, refl, sym, ap, ap₂, subst, ℕ, suc, ◌+◌, ◌-◌, ◌<◌, ◌≤◌, ◌⊎◌, inl, inr, ⊎_elim, List, [], ◌∷◌, ◌++◌, length, Some, Bool, true, false, ◌&&◌, nat_eq, arith, slice_get, slice_set, decimal, list_any, and_parts, cases_lt, eqb-true, decimal_injective}
use Rattle.base_lists.proofs.Common.{length-append, length-map, list_any-append, slice_get_within, same_Some, length-numbers, numbers_at, and_then_is, append_at_left, append_left, append_right, map_at, set_at, set_other, either_true}
use Rattle.base_lists.specs.Options.{all_there}
use Rattle.base_lists.specs.Places.{numbers}
use Rattle.wasm_tree_spec.specs.Prelude.{Functions, FuncType, Module}
use Rattle.wasm_meaning.specs.Prelude.{overwrite, Pair, FuncRef, RefVal, Inst, Store, Environment, own_count, added, supplied_by_primary, Run, Secondary, LoaderWorld, LoaderRun, secondary_of, store_loaded}
use Rattle.run_simulation.specs.Prelude.{Pairing, CodeAt}
use Rattle.run_simulation.specs.WiderRelations.{CodeStaysRelated, StoresStayRelated, RunsStayRelated}
use Rattle.world_simulation.specs.StoreExtension.{StaysIn, AddedModulesExtend}
use Rattle.world_simulation.proofs.AddedModuleExtension.{without_start}
use Rattle.split_spec.specs.declared.names.SplitNames.{SplitNames}
use Rattle.split_spec.specs.Prelude.{HasSlots, secondary_with}
use Rattle.split_proof.specs.SplitWorlds.{placeholders_for, split_world, type_in}
use Rattle.split_proof.specs.Addresses.{defined_address, is_partner, may_stand, moved_addresses, slot_table_address, split_pairing}
use Rattle.split_proof.specs.SplitInstantiation.{RunsRelated}
use Rattle.split_proof.specs.SplitLaws.{CanBeSplit}
use Rattle.split_proof.specs.Loads.{Loads, references}
use Rattle.split_proof.specs.LoadedCode.{InstancesAreRelated, RelatedAsLoaded, loaded_from}
use Rattle.split_proof.specs.CorrespondingStates.{Corresponds, SlotHolds, SlotIs, filled, waits}
use Rattle.split_proof.proofs.LoadsInRuns.{LoadLaws, secondaries_load, small}
use Rattle.split_proof.proofs.InstantiatedSplits.{slots_many}
use Rattle.split_proof.proofs.IndexEntries.{Laws}
use Rattle.split_proof.proofs.StoresAfterLoads.{allows_more, loads_keep}
use Rattle.split_proof.proofs.SecondarySlots.{OwnsSlot, owns_slot, written_at, unwritten_at}

-- The laws that the lemmas of this file assume.
pub record SettleLaws : Type 0 where
  pub begin : Laws
  pub load : LoadLaws
  pub added : AddedModulesExtend
  pub code_stays : CodeStaysRelated
  pub stores_stay : StoresStayRelated
  pub runs_stay : RunsStayRelated

-- A pair of the loaded functions belongs to one of the functions of the secondary module.
pair_of : (env : Environment) (m : Module) (own : List ℕ) (from a c : ℕ) → list_any (λ p. nat_eq p.0 a && nat_eq p.1 c) (loaded_from env m own from) ≡ true → (p f : ℕ) × (slice_get own p ≡ Some f) × (a ≡ defined_address env m f) × (c ≡ from + p)
pair_of env m [] from a c h = absurd (let k = h in cc)
pair_of env m (f ∷ own) from a c h =
    ⊎_elim
    (λ e.
    let b = and_parts (nat_eq (defined_address env m f) a) (nat_eq from c) e in
    let same = eqb-true from c b.1 in
    (0, f, refl, sym (eqb-true (defined_address env m f) a b.0), omega (arith, same)))
    (λ e. let r = pair_of env m own (suc from) a c e in let same = r.4 in (suc r.0, r.1, r.2, r.3, omega (arith, same)))
    (either_true (nat_eq (defined_address env m f) a && nat_eq from c) (list_any (λ p. nat_eq p.0 a && nat_eq p.1 c) (loaded_from env m own (suc from))) h)

module _ (laws : SettleLaws) (namespace : ℕ → List ℕ) (names : SplitNames) (m : Module) (moved : List ℕ) (owns : List (List ℕ)) (g : CanBeSplit namespace names m moved owns) (env : Environment) (first second : Inst) (alike : InstancesAreRelated env m moved first second) where
  abbrev pub w : LoaderWorld
  w = split_world namespace names m moved owns

  -- Related code stays related after more functions are loaded.
  pub code_wider : (loaded more : List (ℕ × ℕ)) {s t : Store} {u : _} {a c : ℕ} → CodeAt (split_pairing env m moved loaded) s t u a c → CodeAt (split_pairing env m moved (loaded ++ more)) s t u a c
  code_wider loaded more k = record {
    first_inst = k.first_inst;
    second_inst = k.second_inst;
    locals = k.locals;
    first_code = k.first_code;
    second_code = k.second_code;
    first = k.first;
    second = k.second;
    related = laws.code_stays (is_partner env m moved) (is_partner env m moved) (moved_addresses env m moved) (may_stand env m moved loaded) (may_stand env m moved (loaded ++ more)) (allows_more env m moved loaded more) k.first_inst k.second_inst k.first_code k.second_code k.related;
  }

  pub runs_wider : (loaded more : List (ℕ × ℕ)) (r q : Run) → RunsRelated (split_pairing env m moved loaded) r q → RunsRelated (split_pairing env m moved (loaded ++ more)) r q
  runs_wider loaded more r q h = laws.runs_stay (is_partner env m moved) (is_partner env m moved) (moved_addresses env m moved) (may_stand env m moved loaded) (may_stand env m moved (loaded ++ more)) (allows_more env m moved loaded more) r q h

  -- Related code stays related where the second store keeps its functions.
  code_later : {R : Pairing} {s t y : Store} {u : _} {a c : ℕ} → ((a : ℕ) (f : _) → slice_get t.funcs a ≡ Some f → slice_get y.funcs a ≡ Some f) → CodeAt R s t u a c → CodeAt R s y u a c
  code_later {c = c} h k = record { first_inst = k.first_inst; second_inst = k.second_inst; locals = k.locals; first_code = k.first_code; second_code = k.second_code; first = k.first; second = h c _ k.second; related = k.related }

  -- ---- a load ----

  module _ (loaded : List (ℕ × ℕ)) (r : Run) (q : LoaderRun) (h : Corresponds env m moved w first second loaded r q) (slot k : ℕ) (place : secondary_of w.secondaries slot ≡ Some k) (not_loaded : slice_get q.loaded k ≡ Some false) where
    abbrev x : OwnsSlot namespace names m moved 0 owns slot k
    x = owns_slot namespace names m moved owns [] 0 (sym g.lists) refl slot k place

    abbrev loads : Loads namespace names m moved x.own x.before second q.run.store
    loads = secondaries_load laws.load namespace names m moved x.own x.before g.valid g.bounded g.can_move (small laws.load namespace names m moved owns g) g.names_free x.slots second q.run.store h.typed

    abbrev pub module_loaded : Secondary
    module_loaded = record { «module» = secondary_with names m moved x.own x.before; placeholders = placeholders_for namespace m x.before x.own }

    pub module_is : slice_get w.secondaries k ≡ Some module_loaded
    module_is = x.is

    -- The store after the load.
    abbrev pub after : Store
    after = loads.added.filled.store

    pub load_fills : store_loaded w second module_loaded.«module» false q.run.store ≡ record { store = after; trapped = false }
    load_fills = rw loads.links (ap (λ b. record { store = after; trapped = b }) loads.fills)

    abbrev count : ℕ
    count = length q.run.store.funcs

    abbrev pub more : List (ℕ × ℕ)
    more = loaded_from env m x.own count

    abbrev pub settled_run : LoaderRun
    settled_run = record q { run = record q.run { store = after }; loaded = slice_set q.loaded k true }

    abbrev kept : RelatedAsLoaded env m moved (loaded ++ more) x.own count r.store after
    kept = loads_keep laws.begin laws.stores_stay namespace names m moved owns g env first second alike x.own x.before x.slots loaded r.store q.run.store after loads.added.inst loads.is_loaded h.funcs.moves h.related.store

    stays : StaysIn q.run.store after
    stays = let things = and_then_is (all_there (supplied_by_primary w.import_namespace w.primary second) module_loaded.«module».imports) (added q.run.store module_loaded.«module») loads.added
        (without_start module_loaded.«module».start _ loads.added loads.links) in
        laws.added q.run.store module_loaded.«module» things.0 loads.added things.2

    written : (zs : List RefVal) × (overwrite h.funcs.table.slots x.before (references count (length x.own)) ≡ Some zs) × (slice_get after.tables (slot_table_address env m) ≡ Some (record h.funcs.table { slots = zs }))
    written = loads.is_loaded.slots_filled (slot_table_address env m) h.funcs.table alike.slots h.funcs.table_stands

    references_many : length (references count (length x.own)) ≡ length x.own
    references_many = length-map (numbers count (length x.own)) (λ a. FuncRef (Some a)) ∙ length-numbers count (length x.own)

    -- The function of a slot in the range of this secondary module is one of its own.
    own_at : (p f : ℕ) → slice_get moved p ≡ Some f → x.before ≤ p → p < x.before + length x.own → slice_get x.own (p - x.before) ≡ Some f
    own_at p f at low high =
        let e : p ≡ length x.slots.earlier + (p - x.before) = (let c = x.slots.count in omega (arith, low, c)) in
        sym (append_left x.own x.slots.later (p - x.before) (omega (arith, low, high))) ∙ sym (append_right x.slots.earlier (x.own ++ x.slots.later) (p - x.before)) ∙ ap₂ (λ fs n. slice_get fs n) (sym x.slots.all) (sym e) ∙ at

    -- Two slots of one secondary module are in the same range.
    same_range : (p : ℕ) (y : OwnsSlot namespace names m moved 0 owns p k) → (x.before ≡ y.before) × (length x.own ≡ length y.own)
    same_range p y =
        let same = ap (λ (s : Secondary). s.placeholders) (same_Some _ _ (sym x.is ∙ y.is)) in
        let a = slots_many namespace m x.before x.own in
        let b = slots_many namespace m y.before y.own in
        let all = ap length same in
        let from = x.from in
        let to = x.to in
        let low = y.from in
        let high = y.to in
        let one = first_name x.before x.own (omega (arith, from, to)) in
        let two = first_name y.before y.own (omega (arith, low, high)) in
        let names_same : decimal x.before ≡ decimal y.before = ap (λ (p : Pair × FuncType). p.0.1) (same_Some _ _ (sym one.1 ∙ ap (λ ps. slice_get ps 0) same ∙ two.1)) in
        let few = small laws.load namespace names m moved owns g in
        (decimal_injective x.before y.before (omega (arith, few, few_slots x.before x.own x.slots)) (omega (arith, few, few_slots y.before y.own y.slots)) names_same, omega (arith, a, b, all))
      where
        first_name : (b : ℕ) (own : List ℕ) → 0 < length own → (t : FuncType) × (slice_get (placeholders_for namespace m b own) 0 ≡ Some ((namespace b, decimal b), t))
        first_name b [] lt = absurd (omega (arith, lt))
        first_name b (f ∷ own) lt = (type_in m f, refl)

        few_slots : (b : ℕ) (own : List ℕ) → HasSlots moved own b → b ≤ length moved
        few_slots b own s =
            let c = s.count in
            let all = ap length s.all in
            let more = length-append s.earlier (own ++ s.later) in
            omega (arith, c, all, more)

    -- The function in a slot after the load.
    slot_then : (p f : ℕ) → slice_get moved p ≡ Some f → SlotIs env m moved w (loaded ++ more) r.store settled_run (record h.funcs.table { slots = written.0 }) p f
    slot_then p f at = by (h.funcs.slots p f at)
      where
        holds_still : {b : Bool} → slice_get written.0 p ≡ slice_get h.funcs.table.slots p → SlotHolds env m moved loaded r.store q.run.store h.funcs.table p f b → SlotHolds env m moved (loaded ++ more) r.store after (record h.funcs.table { slots = written.0 }) p f b
        holds_still e (waits refers stands) = waits (e ∙ refers) (loads.is_loaded.earlier_funcs (own_count Functions env + p) _ stands)
        holds_still e (filled c refers code) = filled c (e ∙ refers) (code_later loads.is_loaded.earlier_funcs (code_wider loaded more code))

        within : x.before ≤ p → p < x.before + length x.own → SlotIs env m moved w (loaded ++ more) r.store settled_run (record h.funcs.table { slots = written.0 }) p f
        within low high =
            let e : x.before + (p - x.before) ≡ p = omega (arith, low) in
            let refers : slice_get written.0 p ≡ Some (FuncRef (Some (count + (p - x.before)))) =
            ap (slice_get written.0) (sym e) ∙ written_at h.funcs.table.slots x.before (references count (length x.own)) written.0 written.1 (p - x.before) (let many = references_many in omega (arith, low, high, many))
            ∙ map_at (λ a. FuncRef (Some a)) (numbers count (length x.own)) (p - x.before) (count + (p - x.before)) (numbers_at count (length x.own) (p - x.before) (omega (arith, low, high))) in
            record {
              secondary = k;
              is_place = x.all p (omega (arith, low)) (omega (arith, high));
              is_loaded = true;
              loaded_is = set_at q.loaded k true (slice_get_within q.loaded k false not_loaded);
              holds = filled (count + (p - x.before)) refers (kept.code (p - x.before) f (own_at p f at low high));
            }

        outside : (p < x.before) ⊎ (x.before + length x.own ≤ p) → SlotIs env m moved w loaded r.store q h.funcs.table p f → SlotIs env m moved w (loaded ++ more) r.store settled_run (record h.funcs.table { slots = written.0 }) p f
        outside out z =
            record {
              secondary = z.secondary;
              is_place = z.is_place;
              is_loaded = z.is_loaded;
              loaded_is = set_other q.loaded k z.secondary true another ∙ z.loaded_is;
              holds = holds_still (unwritten_at h.funcs.table.slots x.before (references count (length x.own)) written.0 written.1 p (⊎_elim (λ lt. inl lt) (λ le. inr (let many = references_many in omega (arith, le, many))) out)) z.holds;
            }
          where
            another : z.secondary ≡ k → ⊥
            another e =
                let y = owns_slot namespace names m moved owns [] 0 (sym g.lists) refl p k (z.is_place ∙ ap Some e) in
                let s = same_range p y in
                let low = y.from in
                let high = y.to in
                let one = s.0 in
                let two = s.1 in
                ⊎_elim (λ lt. omega (arith, low, one, lt)) (λ le. omega (arith, high, one, two, le)) out

        by : SlotIs env m moved w loaded r.store q h.funcs.table p f → SlotIs env m moved w (loaded ++ more) r.store settled_run (record h.funcs.table { slots = written.0 }) p f
        by z = ⊎_elim (λ lt. outside (inl lt) z) (λ low. ⊎_elim (λ high. within low high) (λ le. outside (inr le) z) (cases_lt p (x.before + length x.own))) (cases_lt p x.before)

    pairs_then : (a c : ℕ) → list_any (λ p. nat_eq p.0 a && nat_eq p.1 c) (loaded ++ more) ≡ true →
        (p f : ℕ) × (slice_get moved p ≡ Some f) × (a ≡ defined_address env m f) × CodeAt (split_pairing env m moved (loaded ++ more)) r.store after (type_in m f) a c
    pairs_then a c e =
        ⊎_elim
        (λ old. let y = h.funcs.pairs a c old in (y.0, y.1, y.2, y.3, code_later loads.is_loaded.earlier_funcs (code_wider loaded more y.4)))
        (λ new.
        let y = pair_of env m x.own count a c new in
        let in_moved : slice_get moved (length x.slots.earlier + y.0) ≡ Some y.1 = ap (λ fs. slice_get fs (length x.slots.earlier + y.0)) x.slots.all ∙ append_right x.slots.earlier (x.own ++ x.slots.later) y.0 ∙ append_at_left x.own x.slots.later y.0 y.1 y.2 in (
          length x.slots.earlier + y.0,
          y.1,
          in_moved,
          y.3,
          subst (λ a. CodeAt (split_pairing env m moved (loaded ++ more)) r.store after (type_in m y.1) a c) (sym y.3) (subst (CodeAt (split_pairing env m moved (loaded ++ more)) r.store after (type_in m y.1) (defined_address env m y.1)) (sym y.4) (kept.code y.0 y.1 y.2)),
        ))
        (either_true (list_any (λ p. nat_eq p.0 a && nat_eq p.1 c) loaded) (list_any (λ p. nat_eq p.0 a && nat_eq p.1 c) more) (sym (list_any-append (λ p. nat_eq p.0 a && nat_eq p.1 c) loaded more) ∙ e))

    pub settled : Corresponds env m moved w first second (loaded ++ more) r settled_run
    settled =
        let wider = runs_wider loaded more r q.run h.related in
        record {
          related = record { store = kept.store; entries = wider.entries; phase = wider.phase; shown = wider.shown; view = wider.view; owned = wider.owned; moves = wider.moves };
          begun = h.begun;
          inst = h.inst;
          typed = laws.load.stays w.primary second q.run.store after stays h.typed;
          funcs = record {
            plain = h.funcs.plain;
            moves = h.funcs.moves;
            trampolines = λ p f b at left. loads.is_loaded.earlier_funcs b _ (h.funcs.trampolines p f b at left);
            table = record h.funcs.table { slots = written.0 };
            table_stands = written.2;
            slots = slot_then;
            pairs = pairs_then;
          };
        }
