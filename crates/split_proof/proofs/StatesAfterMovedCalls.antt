-- The states of both runs correspond after a moved function is entered, whether it is in its slot
-- already or is loaded first.
use Rattle.base_lists.proofs.Common.{◌≡◌, ◌∙◌, sym, ap, ap₂, subst, ℕ, zero, suc, ◌+◌, ◌^◌, ◌<◌, ◌≤◌, List, [], ◌∷◌, ◌++◌, Some, None, Bool, true, false, arith, slice_get, slice_set, pos, decimal, slice_get_within, same_Some, set_at}
use Rattle.base_lists.specs.Options.{◌>>=◌}
use Rattle.std.specs.List.{cons_option}
use Rattle.base_simulation.specs.Machines.{events_of}
use Rattle.wasm_tree_spec.specs.Prelude.{FuncType, Module}
use Rattle.wasm_meaning.specs.Prelude.{Gives, FuncRef, Val, Inst, Func, Store, Entry, Running, Ended, CallsPlaceholder, enter_at, step, Environment, Run, Out, Move, Steps, run_after, transition, tick, LoaderWorld, LoaderRun, tick_loader}
use Rattle.wasm_meaning.specs.Control.{type_of_func as type_of}
use Rattle.wasm_meaning.specs.Loader.{with_loaded}
use Rattle.run_simulation.specs.Prelude.{Pairing, ListRel, ValRel, ended, CodeAt, InSlot, WithPassing}
use Rattle.run_simulation.specs.Trampolines as between
use Rattle.world_simulation.specs.LoaderSteps.{IsAnswered, PlaceholdersAreAnswered}
use Rattle.split_spec.specs.declared.names.SplitNames.{SplitNames}
use Rattle.split_spec.specs.Prelude.{slot_table, type_index}
use Rattle.split_proof.specs.SplitWorlds.{placeholders_for, type_in}
use Rattle.split_proof.specs.Addresses.{defined_address, slot_table_address, split_pairing}
use Rattle.split_proof.specs.AnsweringSteps.{StepAnswered}
use Rattle.split_proof.specs.SplitLaws.{CanBeSplit}
use Rattle.split_proof.specs.LoadedCode.{InstancesAreRelated}
use Rattle.split_proof.specs.CorrespondingStates.{Corresponds, SlotHolds, SlotIs, filled, waits}
use Rattle.split_proof.proofs.EnteredFunctions.{Below, first_frame, second_frame, frames_rel, over_them, stands_with, enters_code, first_enters}
use Rattle.split_proof.proofs.IndexEntries.{holds}
use Rattle.split_proof.proofs.LoadsInRuns.{small}
use Rattle.split_proof.proofs.PlaceholderImports.{placeholders_are, moved_typed, slot_stays}
use Rattle.split_proof.proofs.StatesAfterLoads.{SettleLaws, w, runs_wider, module_loaded, module_is, load_fills, more, settled_run, settled}
use Rattle.split_proof.proofs.StutteringRuns.{at, step_is}
use Rattle.base_simulation.proofs.StutteringSteps.{StutteringSteps, stuttering_state, stuttering_events, last_state, last_events}

-- The placeholder of a slot has the namespace and the number of the slot, and the type of the moved
-- function.
placeholder_there : (namespace : ℕ → List ℕ) (m : Module) (from : ℕ) (fs : List ℕ) (p f : ℕ) → slice_get fs p ≡ Some f → slice_get (placeholders_for namespace m from fs) p ≡ Some ((namespace (from + p), decimal (from + p)), type_in m f)
placeholder_there namespace m from [] p f at = absurd (let k = at in cc)
placeholder_there namespace m from (x ∷ fs) zero f at =
    let e : from ≡ from + 0 = omega arith in
    let same : x ≡ f = same_Some _ _ at in
    ap₂ (λ n g. Some ((namespace n, decimal n), type_in m g)) e same
placeholder_there namespace m from (x ∷ fs) (suc p) f at = let e : suc from + p ≡ from + suc p = omega arith in placeholder_there namespace m (suc from) fs p f at ∙ ap (λ n. Some ((namespace n, decimal n), type_in m f)) e

module _ (laws : SettleLaws) (answered : PlaceholdersAreAnswered) (namespace : ℕ → List ℕ) (names : SplitNames) (m : Module) (moved : List ℕ) (owns : List (List ℕ)) (g : CanBeSplit namespace names m moved owns) (env : Environment) (first second : Inst)
    (alike : InstancesAreRelated env m moved first second) (most : ℕ) where
  abbrev pub world : LoaderWorld
  world = w laws namespace names m moved owns g env first second alike

  -- The slots of corresponding states, with their table.
  module _ (loaded : List (ℕ × ℕ)) (r : Run) (q : LoaderRun) (h : Corresponds env m moved world first second loaded r q) (p f : ℕ) (is : slice_get moved p ≡ Some f) where
    few : p < 2 ^ 32
    few = let lt = slice_get_within moved p f is in let a = small laws.load namespace names m moved owns g in omega (arith, lt, a)

    -- The indices of the primary module's instance name a function of the right type in a slot.
    pub in_slot : (c : ℕ) (d : Func) → slice_get h.funcs.table.slots p ≡ Some (FuncRef (Some c)) → slice_get q.run.store.funcs c ≡ Some d → type_of d ≡ type_in m f → InSlot q.run.store second (type_in m f) (type_index m f) (slot_table m) (pos p) c
    in_slot c d refers stands typed = record {
      type = ap (λ ts. slice_get ts (type_index m f)) alike.types ∙ moved_typed namespace names m moved owns g (holds laws.begin namespace names m moved owns g) p f is;
      address = slot_table_address env m;
      names = alike.slots;
      slots = h.funcs.table;
      stands = h.funcs.table_stands;
      refers = ap (slice_get h.funcs.table.slots) (slot_stays p few) ∙ refers;
      function = d;
      is_function = stands;
      typed = typed;
    }

  -- ---- the function is in its slot ----

  module _ (loaded : List (ℕ × ℕ)) (r : Run) (q : LoaderRun) (h : Corresponds env m moved world first second loaded r q) (ms : List Move) (vs ws : List Val) (es fs : List Entry) (v : ListRel (ValRel (split_pairing env m moved loaded)) vs ws) {u : FuncType} {a c : ℕ}
      (k : CodeAt (split_pairing env m moved loaded) r.store q.run.store u a c) (below : Below (split_pairing env m moved loaded) u es fs)
      (first_is : transition r ≡ Steps (record r { moves = ms }) (enter_at r.store a vs es)) where
    abbrev pub there : LoaderRun
    there = record q { run = record q.run { moves = ms; entries = Running (second_frame k ws) ∷ fs } }

    stand : Corresponds env m moved world first second loaded (tick r).0 there
    stand = rw (first_enters r k ms vs es first_is) (stands_with env m moved world first second loaded h ms (Running (first_frame k vs) ∷ es) (Running (second_frame k ws) ∷ fs) (over_them k.first_inst k.second_inst vs ws k.locals k.locals k.first_code k.second_code below (frames_rel k v)))

    nothing_seen : events_of tick r 1 ≡ []
    nothing_seen = ap (λ (o : Out). cons_option o.1 []) (first_enters r k ms vs es first_is)

    -- The step is answered where the second run enters the function after a bounded number of
    -- stuttering steps.
    pub entered : (n : ℕ) → n ≤ most + 2 → StutteringSteps (tick_loader world) (suc n) q there → StepAnswered env m moved world first second most r q
    entered n le silent = record {
      further = n;
      bound = le;
      shown = stuttering_events (tick_loader world) silent ∙ sym nothing_seen;
      loaded = loaded;
      next = subst (Corresponds env m moved world first second loaded (tick r).0) (sym (stuttering_state (tick_loader world) silent)) stand;
    }

  -- ---- its placeholder is ----

  module _ (loaded : List (ℕ × ℕ)) (r : Run) (q : LoaderRun) (h : Corresponds env m moved world first second loaded r q) (p f : ℕ) (is : slice_get moved p ≡ Some f) (z : SlotIs env m moved world loaded r.store q h.funcs.table p f) (not_loaded : z.is_loaded ≡ false)
      (ms : List Move) (vs ws : List Val) (es fs : List Entry) (v : ListRel (ValRel (split_pairing env m moved loaded)) vs ws) where
    abbrev pub flag : slice_get q.loaded z.secondary ≡ Some false
    flag = z.loaded_is ∙ ap Some not_loaded

    abbrev pub all : List (ℕ × ℕ)
    all = loaded ++ more laws namespace names m moved owns g env first second alike loaded r q h p z.secondary z.is_place flag

    abbrev pub later : LoaderRun
    later = settled_run laws namespace names m moved owns g env first second alike loaded r q h p z.secondary z.is_place flag

    pub settles : Corresponds env m moved world first second all r later
    settles = settled laws namespace names m moved owns g env first second alike loaded r q h p z.secondary z.is_place flag

    -- After the load the slot refers to the loaded function.
    pub record InPlace : Type 0 where
      pub func : ℕ
      pub refers : slice_get settles.funcs.table.slots p ≡ Some (FuncRef (Some func))
      pub code : CodeAt (split_pairing env m moved all) r.store later.run.store (type_in m f) (defined_address env m f) func

    pub in_place : InPlace
    in_place = by (settles.funcs.slots p f is)
      where
        from : {b : Bool} → b ≡ true → SlotHolds env m moved all r.store later.run.store settles.funcs.table p f b → InPlace
        from e (waits refers stands) = absurd (let k = e in cc)
        from e (filled c refers code) = record { func = c; refers = refers; code = code }

        by : SlotIs env m moved world all r.store later settles.funcs.table p f → InPlace
        by y =
            let same : y.secondary ≡ z.secondary = same_Some _ _ (sym y.is_place ∙ z.is_place) in
            let set : slice_get (slice_set q.loaded z.secondary true) y.secondary ≡ Some true = ap (slice_get (slice_set q.loaded z.secondary true)) same ∙ set_at q.loaded z.secondary true (slice_get_within q.loaded z.secondary false flag) in
            from (same_Some _ _ (sym y.loaded_is ∙ set)) y.holds

    -- The arguments, related before the load, are related after it.
    values_still : ListRel (ValRel (split_pairing env m moved all)) vs ws
    values_still = by ((runs_wider laws namespace names m moved owns g env first second alike loaded (more laws namespace names m moved owns g env first second alike loaded r q h p z.secondary z.is_place flag) (record r { entries = Ended vs ∷ [] }) (record q.run { entries = Ended ws ∷ [] })
        (record { store = h.related.store; entries = between.WithPassing.cons (ended v) between.WithPassing.nil; phase = h.related.phase; shown = h.related.shown; view = h.related.view; owned = h.related.owned; moves = h.related.moves })).entries)
      where
        by : {R : Pairing} → WithPassing R (Ended vs ∷ []) (Ended ws ∷ []) → ListRel (ValRel R) vs ws
        by (between.WithPassing.cons (ended v) e) = v

    pub stack_still : {xs ys : List Entry} → WithPassing (split_pairing env m moved loaded) xs ys → WithPassing (split_pairing env m moved all) xs ys
    stack_still {xs} {ys} e =
        (runs_wider laws namespace names m moved owns g env first second alike loaded (more laws namespace names m moved owns g env first second alike loaded r q h p z.secondary z.is_place flag) (record r { entries = xs }) (record q.run { entries = ys })
        (record { store = h.related.store; entries = e; phase = h.related.phase; shown = h.related.shown; view = h.related.view; owned = h.related.owned; moves = h.related.moves })).entries

    -- The second run in a state in which it calls the placeholder.
    abbrev pub calling : Store → List Entry → LoaderRun
    calling t gs = record q { run = at (record q.run { moves = ms }) t gs }

    is_answered : (t : Store) (gs : List Entry) → IsAnswered world (calling t gs) p q.run.store
    is_answered t gs = record {
      inst = second;
      is_inst = h.inst;
      secondary = z.secondary;
      is_place = z.is_place;
      loads = module_loaded laws namespace names m moved owns g env first second alike loaded r q h p z.secondary z.is_place flag;
      is_secondary = module_is laws namespace names m moved owns g env first second alike loaded r q h p z.secondary z.is_place flag;
      is_loaded = false;
      loaded = flag;
      after = later.run.store;
      fills = load_fills laws namespace names m moved owns g env first second alike loaded r q h p z.secondary z.is_place flag;
      placeholder = ((namespace p, decimal p), type_in m f);
      is_placeholder = ap (λ ps. slice_get ps p) (placeholders_are namespace names m moved owns g (holds laws.begin namespace names m moved owns g)) ∙ placeholder_there namespace m 0 moved p f is ∙ (let e : 0 + p ≡ p = omega arith in ap (λ n. Some ((namespace n, decimal n), type_in m f)) e);
      address = slot_table_address env m;
      names = alike.slots;
      table = settles.funcs.table;
      stands = settles.funcs.table_stands;
      func = in_place.func;
      refers = in_place.refers;
      typed = ap (λ o. o >>= λ f. Some (type_of f)) in_place.code.second;
    }

    module _ (below : Below (split_pairing env m moved all) (type_in m f) es fs) (first_is : transition r ≡ Steps (record r { moves = ms }) (enter_at r.store (defined_address env m f) vs es)) where
      abbrev loaded_there : LoaderRun
      loaded_there = record later { run = record later.run { moves = ms; entries = Running (second_frame in_place.code ws) ∷ fs } }

      stand_loaded : Corresponds env m moved world first second all (tick r).0 loaded_there
      stand_loaded = rw (first_enters r in_place.code ms vs es first_is) (stands_with env m moved world first second all settles ms (Running (first_frame in_place.code vs) ∷ es) (Running (second_frame in_place.code ws) ∷ fs)
          (over_them in_place.code.first_inst in_place.code.second_inst vs ws in_place.code.locals in_place.code.locals in_place.code.first_code in_place.code.second_code below (frames_rel in_place.code values_still)))

      nothing_seen_then : events_of tick r 1 ≡ []
      nothing_seen_then = ap (λ (o : Out). cons_option o.1 []) (first_enters r in_place.code ms vs es first_is)

      -- The step is answered where the second run calls the placeholder after a bounded number of
      -- stuttering steps.
      pub loaded_first : (n : ℕ) → n ≤ most + 2 → (t : Store) (gs : List Entry) → StutteringSteps (tick_loader world) n q (calling t gs) → step t gs ≡ Gives (CallsPlaceholder p ws q.run.store fs) → StepAnswered env m moved world first second most r q
      unfolding is_answered
      loaded_first n le t gs silent calls =
          let x = at (record q.run { moves = ms }) t gs in
          let last : tick_loader world (calling t gs) ≡ (loaded_there, None) =
          answered world (calling t gs) x p ws q.run.store fs (step_is (record q.run { moves = ms }) t gs (CallsPlaceholder p ws q.run.store fs) calls) (is_answered t gs)
          ∙ ap (λ (o : Out). (with_loaded (calling t gs) z.secondary o.0, o.1)) (ap (run_after (record x { store = later.run.store; entries = fs }))
          (enters_code later.run.store in_place.func (type_in m f) in_place.code.second_inst in_place.code.locals in_place.code.second_code in_place.code.second ws fs)) in
          record {
            further = n;
            bound = le;
            shown = last_events (tick_loader world) silent last ∙ sym nothing_seen_then;
            loaded = all;
            next = subst (Corresponds env m moved world first second all (tick r).0) (sym (last_state (tick_loader world) silent last)) stand_loaded;
          }
