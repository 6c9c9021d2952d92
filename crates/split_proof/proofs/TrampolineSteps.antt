-- A step in which the first run enters a moved function and the second its trampoline: the steps of
-- the trampoline, with a load if needed, answer it.
use Rattle.base_lists.proofs.Common.{◌≡◌, ◌∙◌, refl, sym, ap, subst, ℕ, zero, suc, ◌+◌, ◌≤◌, List, [], ◌∷◌, ◌++◌, length, nat_eq, Option, Some, None, Bool, true, false, arith, slice_get, unwrap_or, pos, IsTrue, list_any, option_map_or, same_Some, map_from, among_there}
use Rattle.base_lists.specs.Options.{◌>>=◌}
use Rattle.wasm_tree_spec.specs.Prelude.{Functions, FuncType, Module, type_of_func}
use Rattle.wasm_meaning.specs.Prelude.{Gives, bind, or_ill_typed, FuncRef, Inst, Code, Placeholder, Store, Entry, Running, Ran, CallsPlaceholder, type_at, enter, enter_at, Environment, own_count, Run, Steps, transition, LoaderWorld, LoaderRun, tick_loader}
use Rattle.wasm_meaning.specs.Control.{type_of_func as type_of}
use Rattle.run_simulation.specs.Prelude.{Pairing, CodeAt, InSlot, HaveTypes, passing, trampoline, gets, slot_call, go_on}
use Rattle.run_simulation.specs.Trampolines.{TrampolinesEnterSlots}
use Rattle.world_simulation.specs.LoaderSteps.{PlaceholdersAreAnswered}
use Rattle.split_spec.specs.declared.names.SplitNames.{SplitNames}
use Rattle.split_spec.specs.Prelude.{params_of, slot_table, type_index}
use Rattle.split_proof.specs.SplitWorlds.{type_in}
use Rattle.split_proof.specs.Addresses.{defined_address, is_left_at, moved_addresses, split_pairing}
use Rattle.split_proof.specs.AnsweringSteps.{StepAnswered}
use Rattle.split_proof.specs.SplitLaws.{CanBeSplit, most_params}
use Rattle.split_proof.specs.MovedCalls.{EntersInBoth}
use Rattle.split_proof.specs.LoadedCode.{InstancesAreRelated}
use Rattle.split_proof.specs.CorrespondingStates.{Corresponds, SlotHolds, SlotIs, filled, waits}
use Rattle.split_proof.proofs.StatesAfterMovedCalls.{world, in_slot, entered, in_place, stack_still, loaded_first}
use Rattle.split_proof.proofs.EnteredFunctions.{by_trampoline, enters_code, second_frame, frame_in}
use Rattle.split_proof.proofs.StatesAfterLoads.{SettleLaws}
use Rattle.split_proof.proofs.StutteringRuns.{at, ran_is, Reaches, whole, part, reaches}
use Rattle.base_simulation.proofs.StutteringSteps.{StutteringSteps, before}

-- ---- functions that move ----

-- An address on the list is that of a moved function.
pub listed_slot : (env : Environment) (m : Module) (moved : List ℕ) (a : ℕ) → IsTrue (list_any (nat_eq a) (moved_addresses env m moved)) → (p f : ℕ) × (slice_get moved p ≡ Some f) × (defined_address env m f ≡ a)
listed_slot env m moved a h =
    let p = among_there (moved_addresses env m moved) a h in
    let f = map_from (defined_address env m) moved p.0 a p.1 in
    (p.0, f.0, f.1, f.2)

-- A moved function has no more parameters than the maximum over the moved functions.
params_few : (m : Module) (moved : List ℕ) (p f : ℕ) → slice_get moved p ≡ Some f → length (type_in m f).params ≤ most_params m moved
params_few m [] p f at = absurd (let k = at in cc)
params_few m (x ∷ moved) zero f at =
    let same : x ≡ f = same_Some _ _ at in
    let many : length (params_of m f) ≡ length (type_in m f).params = by (type_of_func m f) in
    let here = ap (λ g. length (params_of m g)) same in
    omega (arith, many, here)
  where
    by : (o : Option FuncType) → length (option_map_or (λ t. t.params) o []) ≡ length (unwrap_or o (record { params = []; results = [] })).params
    by None = refl
    by (Some t) = refl
params_few m (x ∷ moved) (suc p) f at = let l = params_few m moved p f at in omega (arith, l)

-- A function has the type of the code that is related to it.
code_typed : {R : Pairing} {s t : Store} {u v : FuncType} {a c : ℕ} → CodeAt R s t u a c → type_at s a ≡ Some v → v ≡ u
code_typed k h = same_Some _ _ (sym h ∙ ap (λ o. o >>= λ f. Some (type_of f)) k.first)

module _ (laws : SettleLaws) (answered : PlaceholdersAreAnswered) (tramp : TrampolinesEnterSlots) (namespace : ℕ → List ℕ) (names : SplitNames) (m : Module) (moved : List ℕ) (owns : List (List ℕ)) (g : CanBeSplit namespace names m moved owns) (env : Environment) (first second : Inst)
    (alike : InstancesAreRelated env m moved first second) where
  abbrev w : LoaderWorld
  w = world laws answered namespace names m moved owns g env first second alike (most_params m moved)

  module _ (loaded : List (ℕ × ℕ)) (r : Run) (q : LoaderRun) (h : Corresponds env m moved w first second loaded r q) (e : EntersInBoth (split_pairing env m moved loaded) r q.run) (p f : ℕ) (is : slice_get moved p ≡ Some f) (a_is : defined_address env m f ≡ e.first) where
    abbrev u : FuncType
    u = type_in m f

    -- The second function is the trampoline of the moved function.
    stands : slice_get q.run.store.funcs e.second ≡ Some (trampoline second u (type_index m f) (slot_table m) (pos p))
    stands = h.funcs.trampolines p f e.second is (subst (λ a. is_left_at env m moved a e.second ≡ true) (sym a_is) e.partners)

    -- The frame of the trampoline.
    abbrev entry : Entry
    entry = Running (frame_in second e.second_values [] u (gets 0 u.params ++ slot_call (type_index m f) (slot_table m) (pos p)))

    enters_it : enter_at q.run.store e.second e.second_values e.second_below ≡ Gives (Ran q.run.store (entry ∷ e.second_below))
    enters_it = enters_code q.run.store e.second u second [] (gets 0 u.params ++ slot_call (type_index m f) (slot_table m) (pos p)) stands e.second_values e.second_below

    abbrev moving : Run
    moving = record q.run { moves = e.moves }

    first_tick : tick_loader w q ≡ (record q { run = at moving q.run.store (entry ∷ e.second_below) }, None)
    first_tick = ran_is w q q.run moving q.run.store (entry ∷ e.second_below) (e.second_step ∙ ap (Steps moving) enters_it)

    -- The stack below the function that the trampoline calls: a frame that only passes the results
    -- on.
    abbrev under : List Entry
    under = Running (passing second e.second_values u.results) ∷ e.second_below

    goes : HaveTypes u.params e.second_values → (c : ℕ) → InSlot q.run.store second u (type_index m f) (slot_table m) (pos p) c → go_on (length u.params + 2) (Gives (Ran q.run.store (entry ∷ e.second_below))) ≡ enter_at q.run.store c e.second_values under
    goes have c slot = ap (go_on (length u.params + 2)) (sym enters_it) ∙ tramp q.run.store second u (type_index m f) (slot_table m) (pos p) e.second c stands slot e.second_values e.second_below have

    first_step : transition r ≡ Steps (record r { moves = e.moves }) (enter_at r.store (defined_address env m f) e.values e.below)
    first_step = e.step ∙ ap (λ a. Steps (record r { moves = e.moves }) (enter_at r.store a e.values e.below)) (sym a_is)

    typed : type_at r.store (defined_address env m f) ≡ Some e.type
    typed = ap (type_at r.store) a_is ∙ e.typed

    have_types : e.type ≡ u → HaveTypes u.params e.second_values
    have_types same = subst (λ (t : FuncType). HaveTypes t.params e.second_values) same e.have_types

    few : length u.params + 2 ≤ most_params m moved + 2
    few = let l = params_few m moved p f is in omega (arith, l)

    same_ran : {s t : Store} {es fs : List Entry} → Gives (Ran s es) ≡ Gives (Ran t fs) → (t ≡ s) × (fs ≡ es)
    same_ran e = (cc, cc)

    -- The case in which the function is in its slot already.
    in_slot_already : (c : ℕ) → slice_get h.funcs.table.slots p ≡ Some (FuncRef (Some c)) → CodeAt (split_pairing env m moved loaded) r.store q.run.store u (defined_address env m f) c → StepAnswered env m moved w first second (most_params m moved) r q
    in_slot_already c refers k =
        let have = have_types (code_typed k typed) in
        let slot = in_slot laws answered namespace names m moved owns g env first second alike (most_params m moved) loaded r q h p f is c (Code u k.second_inst k.locals k.second_code) refers k.second refl in
        let reached = goes have c slot ∙ enters_code q.run.store c u k.second_inst k.locals k.second_code k.second e.second_values under in
        by k (reaches w q moving (length u.params + 2) q.run.store (entry ∷ e.second_below) (Gives (Ran q.run.store (Running (second_frame k e.second_values) ∷ under))) reached)
      where
        by : (k : CodeAt (split_pairing env m moved loaded) r.store q.run.store u (defined_address env m f) c) → Reaches w q moving (length u.params + 2) q.run.store (entry ∷ e.second_below) (Gives (Ran q.run.store (Running (second_frame k e.second_values) ∷ under))) →
            StepAnswered env m moved w first second (most_params m moved) r q
        by k (whole t fs silent is_it) =
            let same = same_ran is_it in
            entered laws answered namespace names m moved owns g env first second alike (most_params m moved) loaded r q h e.moves e.values e.second_values e.below under e.related k (by_trampoline second e.second_values e.stacks) first_step (length u.params + 2) few
            (before first_tick (subst (λ t. StutteringSteps (tick_loader w) (length u.params + 2) (record q { run = at moving q.run.store (entry ∷ e.second_below) }) (record q { run = at moving t (Running (second_frame k e.second_values) ∷ under) })) same.0
            (subst (λ fs. StutteringSteps (tick_loader w) (length u.params + 2) (record q { run = at moving q.run.store (entry ∷ e.second_below) }) (record q { run = at moving t fs })) same.1 silent)))
        by k (part n lt t fs silent is_it other) = absurd (other q.run.store (Running (second_frame k e.second_values) ∷ under) refl)

    -- The case in which the placeholder is still in the slot.
    loaded_then : (z : SlotIs env m moved w loaded r.store q h.funcs.table p f) (waiting : z.is_loaded ≡ false) → slice_get h.funcs.table.slots p ≡ Some (FuncRef (Some (own_count Functions env + p))) → slice_get q.run.store.funcs (own_count Functions env + p) ≡ Some (Placeholder p u) →
        StepAnswered env m moved w first second (most_params m moved) r q
    loaded_then z waiting refers there =
        let k = in_place laws answered namespace names m moved owns g env first second alike (most_params m moved) loaded r q h p f is z waiting e.moves e.values e.second_values e.below under e.related in
        let have = have_types (code_typed k.code typed) in
        let slot = in_slot laws answered namespace names m moved owns g env first second alike (most_params m moved) loaded r q h p f is (own_count Functions env + p) (Placeholder p u) refers there refl in
        let reached = goes have (own_count Functions env + p) slot ∙ ap (λ o. bind (or_ill_typed o) (λ f. Gives (enter q.run.store f e.second_values under))) there in
        by (reaches w q moving (length u.params + 2) q.run.store (entry ∷ e.second_below) (Gives (CallsPlaceholder p e.second_values q.run.store under)) reached)
      where
        by : Reaches w q moving (length u.params + 2) q.run.store (entry ∷ e.second_below) (Gives (CallsPlaceholder p e.second_values q.run.store under)) → StepAnswered env m moved w first second (most_params m moved) r q
        by (whole t fs silent is_it) = absurd (let k = is_it in cc)
        by (part n lt t fs silent is_it other) =
            let l = few in
            loaded_first laws answered namespace names m moved owns g env first second alike (most_params m moved) loaded r q h p f is z waiting e.moves e.values e.second_values e.below under e.related
            (by_trampoline second e.second_values (stack_still laws answered namespace names m moved owns g env first second alike (most_params m moved) loaded r q h p f is z waiting e.moves e.values e.second_values e.below under e.related e.stacks)) first_step (suc n) (omega (arith, lt, l)) t fs
            (before first_tick silent) is_it

    by_slot : StepAnswered env m moved w first second (most_params m moved) r q
    by_slot = by (h.funcs.slots p f is)
      where
        holds_so : (z : SlotIs env m moved w loaded r.store q h.funcs.table p f) (b : Bool) → z.is_loaded ≡ b → SlotHolds env m moved loaded r.store q.run.store h.funcs.table p f b → StepAnswered env m moved w first second (most_params m moved) r q
        holds_so z _ b (waits refers there) = loaded_then z b refers there
        holds_so z _ b (filled c refers code) = in_slot_already c refers code

        by : SlotIs env m moved w loaded r.store q h.funcs.table p f → StepAnswered env m moved w first second (most_params m moved) r q
        by z = holds_so z z.is_loaded refl z.holds

  pub enters_answered : (loaded : List (ℕ × ℕ)) (r : Run) (q : LoaderRun) → Corresponds env m moved w first second loaded r q → EntersInBoth (split_pairing env m moved loaded) r q.run → StepAnswered env m moved w first second (most_params m moved) r q
  enters_answered loaded r q h e = let l = listed_slot env m moved e.first e.listed in by_slot loaded r q h e l.0 l.1 l.2 l.3
