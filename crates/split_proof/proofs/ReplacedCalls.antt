-- A call of a moved function in the first run, which the second replaces by a call through the slot
-- of the function or by a direct call of the loaded function.
use Rattle.base_lists.proofs.Common.{◌≡◌, ◌∙◌, refl, sym, ap, ap₂, subst, ℕ, ◌+◌, ◌≤◌, ◌&&◌, List, [], ◌∷◌, ◌++◌, Some, Bool, true, false, arith, slice_get, nat_eq, option_and_then, ℤ, and_parts, eqb-true, same_Some, and_then_is, map_from, unwrap_or_false_is, place_is, and_from}
use Rattle.base_lists.proofs.Common.{each_same_is, each_same_self}
use Rattle.base_lists.specs.Options.{◌>>=◌}
use Rattle.wasm_num.specs.Operations.{W32, wrapped}
use Rattle.wasm_tree_spec.specs.Prelude.{Functions, FuncType, Instr, Call, CallIndirect, I32Const, Module, same_type, same_types, same_func_type}
use Rattle.wasm_tree.specs.declared.instr.Instr.{out-Instr}
use Rattle.wasm_meaning.specs.Prelude.{Outcome, Gives, bind, or_ill_typed, Caller, Calls, Entry, Frame, Func, FuncRef, Host, Inst, Level, Num, Placeholder, Ran, Running, Starter, Store, Val, pop_typed, type_at, type_of_func, act, enter, enter_at, perform, step, to_mark, Environment, own_count}
use Rattle.wasm_meaning.specs.Prelude.{LoaderRun, LoaderWorld, tick_loader, Out, Run, Steps, made, tick, transition, transition_at, trapped_to}
use Rattle.run_simulation.specs.Prelude.{FrameRel, LevelRel, ListRel, OneToOne, Pairing, ResRel, ValRel, cons, done, nil, trap, wrong, IsBegun, closed, CodeAt, InSlot, WithPassing, at_code}
use Rattle.run_simulation.specs.Trampolines as with_frames
use Rattle.base_lists.specs.Related.{PairRel}
use Rattle.std.specs.List.{cons_option}
use Rattle.run_simulation.proofs.ValueSteps.{pop_typed_rel}
use Rattle.run_simulation.proofs.FramesBetween.{again, between, frames}
use Rattle.world_simulation.specs.LoaderSteps.{PlaceholdersAreAnswered}
use Rattle.split_spec.specs.declared.names.SplitNames.{SplitNames}
use Rattle.split_spec.specs.Prelude.{place_among}
use Rattle.split_proof.specs.SplitWorlds.{type_in}
use Rattle.split_proof.specs.Addresses.{calls_its_slot, calls_loaded, defined_address, may_stand, moved_addresses, slot_table_address, split_pairing}
use Rattle.split_proof.specs.AnsweringSteps.{StepAnswered}
use Rattle.split_proof.specs.SplitInstantiation.{RunsRelated}
use Rattle.split_proof.specs.SplitLaws.{CanBeSplit}
use Rattle.split_proof.specs.MovedCalls.{ReplacementCode}
use Rattle.split_proof.specs.LoadedCode.{InstancesAreRelated}
use Rattle.split_proof.specs.CorrespondingStates.{Corresponds, SlotHolds, SlotIs, filled, waits}
use Rattle.split_proof.proofs.StatesAfterMovedCalls.{entered, in_place, loaded_first, stack_still, world}
use Rattle.split_proof.proofs.EnteredFunctions.{direct, enters_code, funcs_stay, second_frame}
use Rattle.split_proof.proofs.IndexEntries.{holds}
use Rattle.split_proof.proofs.AddressPartners.{one_to_one}
use Rattle.split_proof.proofs.StatesAfterLoads.{SettleLaws}
use Rattle.split_proof.proofs.StutteringRuns.{at, ran_is, step_is}
use Rattle.base_simulation.proofs.StutteringSteps.{StutteringSteps, before, here, one_more, last_events, last_state}

-- ---- what stands there ----

-- The indices and the number of a call through the slot of a moved function.
record CallsSlot (env : Environment) (m : Module) (moved : List ℕ) (j : Inst) (a : ℕ) (slot : ℤ) (ty table : ℕ) : Type 0 where
  pub place : ℕ
  pub func : ℕ
  pub is : slice_get moved place ≡ Some func
  pub address_is : a ≡ defined_address env m func
  pub type : slice_get j.types ty ≡ Some (type_in m func)
  pub table_is : slice_get j.tables table ≡ Some (slot_table_address env m)
  pub wrapped_is : wrapped 32 slot ≡ place

calls_slot : (env : Environment) (m : Module) (moved : List ℕ) (j : Inst) (a : ℕ) (slot : ℤ) (ty table : ℕ) → calls_its_slot env m moved j a slot ty table ≡ true → CallsSlot env m moved j a slot ty table
calls_slot env m moved j a slot ty table h =
    let x = and_then_is (place_among (moved_addresses env m moved) a) _ true (unwrap_or_false_is _ h) in
    let y = and_then_is (slice_get moved x.0) _ true x.2 in
    let z = and_then_is (slice_get j.types ty) _ true y.2 in
    let t = and_then_is (slice_get j.tables table) _ true z.2 in
    let b = and_parts (nat_eq (wrapped 32 slot) x.0) (same_func_type z.0 (type_in m y.0) && nat_eq t.0 (slot_table_address env m)) (same_Some _ _ t.2) in
    let c = and_parts (same_func_type z.0 (type_in m y.0)) (nat_eq t.0 (slot_table_address env m)) b.1 in
    let equal = c.0 in
    let typed : z.0 ≡ type_in m y.0 = grind (arith, each_same_is same_type (λ a b e. grind arith)) in
    let i = place_is a (moved_addresses env m moved) 0 x.0 x.1 in
    let there = map_from (defined_address env m) moved i.0 a i.2 in
    let shift = i.1 in
    let same_place : x.0 ≡ i.0 = omega (arith, shift) in
    let same : there.0 ≡ y.0 = same_Some _ _ (sym there.1 ∙ ap (slice_get moved) (sym same_place) ∙ y.1) in
    record {
      place = x.0;
      func = y.0;
      is = y.1;
      address_is = sym there.2 ∙ ap (defined_address env m) same;
      type = z.1 ∙ ap Some typed;
      table_is = t.1 ∙ ap Some (eqb-true t.0 (slot_table_address env m) c.1);
      wrapped_is = eqb-true (wrapped 32 slot) x.0 b.0;
    }

-- ---- the steps ----

-- A direct call pops its arguments and enters the function.
direct_call : (s : Store) (f : Frame) (o : Level) (os : List Level) (u : FuncType) (n a : ℕ) (c : List Instr) (vs : List Val) (es : List Entry) → slice_get f.inst.funcs n ≡ Some a → type_at s a ≡ Some u →
    step s (Running (at_code f o os vs (Call n ∷ c)) ∷ es) ≡ bind (pop_typed u.params vs) (λ p. enter_at s a p.0 (Running (at_code f o os p.1 c) ∷ es))
unfolding out-Instr denote.Hole.Carrier.out
direct_call s f o os u n a c vs es named typed = rw (named, typed) refl

-- The first instruction of a call through a slot pushes the number of the slot.
number_pushed : (t : Store) (g : Frame) (m : Level) (ms : List Level) (ty table : ℕ) (slot : ℤ) (more : List Val) (d : List Instr) (fs : List Entry) →
    step t (Running (at_code g m ms more (I32Const slot ∷ (CallIndirect ty table ∷ d))) ∷ fs) ≡ Gives (Ran t (Running (at_code g m ms (Num W32 (wrapped 32 slot) ∷ more) (CallIndirect ty table ∷ d)) ∷ fs))
unfolding out-Instr denote.Hole.Carrier.out
number_pushed t g m ms ty table slot more d fs = refl

-- The second instruction of a call through a slot pops the arguments and enters the function in the
-- slot.
slot_called : (t : Store) (g : Frame) (m : Level) (ms : List Level) (u : FuncType) (ty table : ℕ) (slot : ℤ) (c : ℕ) → InSlot t g.inst u ty table slot c → (more : List Val) (d : List Instr) (fs : List Entry) →
    step t (Running (at_code g m ms (Num W32 (wrapped 32 slot) ∷ more) (CallIndirect ty table ∷ d)) ∷ fs) ≡ bind (pop_typed u.params more) (λ p. enter_at t c p.0 (Running (at_code g m ms p.1 d) ∷ fs))
unfolding out-Instr denote.Hole.Carrier.out
slot_called t g m ms u ty table slot c h more d fs =
    let called = at_code g m ms (Num W32 (wrapped 32 slot) ∷ more) (CallIndirect ty table ∷ d) in
    let self = each_same_self same_type (λ a. grind arith) in
    let same : same_func_type u u ≡ true = and_from (same_types u.params u.params) (same_types u.results u.results) (self u.params) (self u.results) in
    let calls : act t called ≡ Gives (Calls c more (record { locals = g.locals; values = Num W32 (wrapped 32 slot) ∷ more; rest = d; gives = m.gives; takes = m.takes; back = m.back; outer = ms })) =
    rw (h.names, h.stands, h.refers, h.is_function, h.typed, h.type, same) refl in
    let type_is : type_at t c ≡ Some u = ap (option_and_then (λ f. Some (type_of_func f))) h.is_function ∙ ap Some h.typed in
    ap (λ a. bind a (perform t called fs)) calls
    ∙ ap (λ o. bind (or_ill_typed o) (λ v. bind (pop_typed v.params more) (λ p. enter_at t c p.0 (Running (at_code g m ms p.1 d) ∷ fs)))) type_is

module _ (laws : SettleLaws) (answered : PlaceholdersAreAnswered) (namespace : ℕ → List ℕ) (names : SplitNames) (m : Module) (moved : List ℕ) (owns : List (List ℕ)) (g : CanBeSplit namespace names m moved owns) (env : Environment) (first second : Inst)
    (alike : InstancesAreRelated env m moved first second) (most : ℕ) where
  abbrev w : LoaderWorld
  w = world laws answered namespace names m moved owns g env first second alike most

  apart : (loaded : List (ℕ × ℕ)) → OneToOne (split_pairing env m moved loaded)
  apart loaded = one_to_one namespace names.export_prefix m (holds laws.begin namespace names m moved owns g) moved g.can_move env loaded

  module _ (loaded : List (ℕ × ℕ)) (r : Run) (q : LoaderRun) (h : Corresponds env m moved w first second loaded r q) where
    abbrev R : Pairing
    R = split_pairing env m moved loaded

    -- The second run with this stack.
    abbrev reached : List Entry → LoaderRun
    reached gs = record q { run = at (record q.run { moves = r.moves }) q.run.store gs }

    reached_first : (gs : List Entry) → q.run.entries ≡ gs → reached gs ≡ q
    reached_first gs e = ap₂ (λ ms es. record q { run = record q.run { moves = ms; entries = es } }) h.related.moves (sym e)

    -- ---- both go wrong ----

    record TrapsToo (gs : List Entry) (o p : Outcome (Caller × List Entry)) : Type 0 where
      pub event : (trapped_to r o).1 ≡ (trapped_to (reached gs).run p).1
      pub related : RunsRelated R (trapped_to r o).0 (trapped_to (reached gs).run p).0
      pub begun : IsBegun (trapped_to r o).0.phase
      pub first_store : (trapped_to r o).0.store ≡ r.store
      pub second_store : (trapped_to (reached gs).run p).0.store ≡ q.run.store

    traps_too : (gs : List Entry) (o p : Outcome (Caller × List Entry)) → ResRel (PairRel (◌≡◌ {A = Caller}) (WithPassing R)) o p → TrapsToo gs o p
    traps_too gs _ _ trap = record { event = refl; related = record { store = h.related.store; entries = with_frames.nil; phase = h.related.phase; shown = h.related.shown; view = h.related.view; owned = h.related.owned; moves = refl }; begun = h.begun; first_store = refl; second_store = refl }
    traps_too gs _ _ wrong = record { event = refl; related = record { store = h.related.store; entries = with_frames.nil; phase = h.related.phase; shown = h.related.shown; view = h.related.view; owned = h.related.owned; moves = refl }; begun = h.begun; first_store = refl; second_store = refl }
    traps_too gs _ _ (done {a = (Host, es)} {b = (Host, fs)} p) = record {
      event = refl;
      related = record { store = h.related.store; entries = p.second; phase = h.related.phase; shown = h.related.shown; view = h.related.view; owned = h.related.owned; moves = refl };
      begun = h.begun;
      first_store =
          refl;
      second_store = refl;
    }
    traps_too gs _ _ (done {a = (Starter, es)} {b = (Starter, fs)} p) = record {
      event = refl;
      related = record { store = h.related.store; entries = with_frames.nil; phase = closed; shown = h.related.shown; view = h.related.view; owned = h.related.owned; moves = refl };
      begun = tt;
      first_store =
          refl;
      second_store = refl;
    }
    traps_too gs _ _ (done {a = (Host, es)} {b = (Starter, fs)} p) = absurd (let k = p.first in cc)
    traps_too gs _ _ (done {a = (Starter, es)} {b = (Host, fs)} p) = absurd (let k = p.first in cc)

    -- A trap of both runs is answered after a bounded number of stuttering steps.
    wrong_after : (n : ℕ) → n ≤ most + 2 → (gs : List Entry) → StutteringSteps (tick_loader w) n q (reached gs) → tick r ≡ trapped_to r (to_mark r.entries) → tick_loader w (reached gs) ≡ (record q { run = (trapped_to (reached gs).run (to_mark gs)).0 }, (trapped_to (reached gs).run (to_mark gs)).1) →
        ResRel (PairRel (◌≡◌ {A = Caller}) (WithPassing R)) (to_mark r.entries) (to_mark gs) → StepAnswered env m moved w first second most r q
    wrong_after n le gs silent first_is second_is marks =
        let t = traps_too gs (to_mark r.entries) (to_mark gs) marks in
        let one = t.first_store in
        let two = t.second_store in
        record {
          further = n;
          bound = le;
          shown = last_events (tick_loader w) silent second_is ∙ ap (λ e. cons_option e []) (sym t.event) ∙ sym (ap (λ (o : Out). cons_option o.1 []) first_is);
          loaded = loaded;
          next = subst (Corresponds env m moved w first second loaded (tick r).0) (sym (last_state (tick_loader w) silent second_is)) (subst (λ (o : Out). Corresponds env m moved w first second loaded o.0 (record q { run = (trapped_to (reached gs).run (to_mark gs)).0 })) (sym first_is) (record {
            related = t.related;
            begun = t.begun;
            inst = h.inst;
            typed = rw two h.typed;
            funcs = funcs_stay env m moved w first second loaded h.funcs (ap (λ (s : Store). s.funcs) one) (ap (λ (s : Store). s.funcs) two) (ap (λ (s : Store). slice_get s.tables (slot_table_address env m)) two) refl;
          }));
        }

    -- ---- the arguments are popped ----

    module _ (e : ReplacementCode R r q.run) (u : FuncType) (typed : type_at r.store e.address ≡ Some u) where
      -- The stack of the first run below the called function.
      abbrev first_below : List Val → List Entry
      first_below vs = Running (at_code e.frame e.level e.outer vs e.rest) ∷ e.below

      abbrev second_below : List Val → List Entry
      second_below vs = Running (at_code e.second_frame e.second_level e.second_outer vs e.second_rest) ∷ e.second_below

      first_calls : transition r ≡ Steps r (bind (pop_typed u.params e.level.values) (λ p. enter_at r.store e.address p.0 (first_below p.1)))
      first_calls =
          ap (transition_at r) e.top.1 ∙ ap (Steps r) (e.step ∙ direct_call r.store e.frame e.level e.outer u e.index e.address e.rest e.level.values e.below e.names typed)

      -- The step is answered where both runs enter the called functions with related arguments.
      abbrev EntersCallee : (n c : ℕ) (k : Frame) → Type 0
      EntersCallee n c k =
          (vs ws left right : List Val) → ListRel (ValRel R) vs ws → WithPassing R (first_below left) (second_below right) → transition r ≡ Steps r (enter_at r.store e.address vs (first_below left)) → step q.run.store (Running k ∷ e.second_below) ≡ enter_at q.run.store c ws (second_below right) →
          StepAnswered env m moved w first second most r q

      top : FrameRel R (at_code e.frame e.level e.outer e.level.values e.rest) (at_code e.second_frame e.second_level e.second_outer e.second_level.values e.second_rest)
      top = frames R e.stacks

      split_levels : {l o : Level} {ls os : List Level} {i j : Inst} → ListRel (LevelRel R i j) (l ∷ ls) (o ∷ os) → LevelRel R i j l o × ListRel (LevelRel R i j) ls os
      split_levels (cons l ls) = (l, ls)

      levels : LevelRel R e.frame.inst e.second_frame.inst (record e.level { code = e.rest }) (record e.second_level { code = e.second_rest }) × ListRel (LevelRel R e.frame.inst e.second_frame.inst) e.outer e.second_outer
      levels = split_levels top.levels

      marks : ResRel (PairRel (◌≡◌ {A = Caller}) (WithPassing R)) (to_mark r.entries) (to_mark e.second_below)
      marks = subst (λ es. ResRel (PairRel (◌≡◌ {A = Caller}) (WithPassing R)) (to_mark es) (to_mark e.second_below)) (sym e.top.1) ((between R (apart loaded)).marks e.stacks)

      popped : (n c : ℕ) → n ≤ most + 2 → (k : Frame) → StutteringSteps (tick_loader w) n q (reached (Running k ∷ e.second_below)) → step q.run.store (Running k ∷ e.second_below) ≡ bind (pop_typed u.params e.second_level.values) (λ p. enter_at q.run.store c p.0 (second_below p.1)) →
          EntersCallee n c k → StepAnswered env m moved w first second most r q
      popped n c le k silent calls goes = by (pop_typed u.params e.level.values) (pop_typed u.params e.second_level.values) refl refl (pop_typed_rel R u.params levels.0.values)
        where
          by : (o p : Outcome (List Val × List Val)) → pop_typed u.params e.level.values ≡ o → pop_typed u.params e.second_level.values ≡ p → ResRel (PairRel (ListRel (ValRel R)) (ListRel (ValRel R))) o p → StepAnswered env m moved w first second most r q
          by _ _ x y trap =
              wrong_after n le (Running k ∷ e.second_below) silent (ap made (first_calls ∙ ap (λ o. Steps r (bind o (λ p. enter_at r.store e.address p.0 (first_below p.1)))) x))
              (rw (calls, y) refl) marks
          by _ _ x y wrong =
              wrong_after n le (Running k ∷ e.second_below) silent (ap made (first_calls ∙ ap (λ o. Steps r (bind o (λ p. enter_at r.store e.address p.0 (first_below p.1)))) x))
              (rw (calls, y) refl) marks
          by _ _ x y (done {a = v} {b = z} p) =
              goes v.0 z.0 v.1 z.1 p.first
              (again R e.stacks refl (record { locals = top.locals; results = top.results; levels = cons (record { values = p.second; code = levels.0.code; gives = levels.0.gives; takes = levels.0.takes; back = levels.0.back }) levels.1 }))
              (first_calls ∙ ap (λ o. Steps r (bind o (λ p. enter_at r.store e.address p.0 (first_below p.1)))) x)
              (calls ∙ ap (λ o. bind o (λ p. enter_at q.run.store c p.0 (second_below p.1))) y)

      -- ---- the function is there ----

      arrives : (n c : ℕ) → n ≤ most + 2 → (k : Frame) → StutteringSteps (tick_loader w) n q (reached (Running k ∷ e.second_below)) → step q.run.store (Running k ∷ e.second_below) ≡ bind (pop_typed u.params e.second_level.values) (λ p. enter_at q.run.store c p.0 (second_below p.1)) →
          CodeAt R r.store q.run.store u e.address c → StepAnswered env m moved w first second most r q
      arrives n c le k silent calls code = popped n c le k silent calls goes
        where
          goes : EntersCallee n c k
          goes vs ws left right v stacks first_is second_is =
              let x = record q.run { moves = r.moves } in
              let gs = Running k ∷ e.second_below in
              let enters = second_is ∙ enters_code q.run.store c u code.second_inst code.locals code.second_code code.second ws (second_below right) in
              entered laws answered namespace names m moved owns g env first second alike most loaded r q h r.moves vs ws (first_below left) (second_below right) v code (direct stacks) first_is n le
              (one_more (tick_loader w) silent (ran_is w q (at x q.run.store gs) (at x q.run.store gs) q.run.store (Running (second_frame code ws) ∷ second_below right) (step_is x q.run.store gs _ enters)))

    -- ---- the call of a function that is loaded ----

    by_index : (e : ReplacementCode R r q.run) (index : ℕ) → e.code ≡ Call index ∷ [] → calls_loaded loaded e.second_frame.inst e.address index ≡ true → StepAnswered env m moved w first second most r q
    by_index e index code_is loads =
        let x = and_then_is (slice_get e.second_frame.inst.funcs index) _ true (unwrap_or_false_is _ loads) in
        let y = h.funcs.pairs e.address x.0 (same_Some _ _ x.2) in
        let typed : type_at r.store e.address ≡ Some (type_in m y.1) = ap (λ o. o >>= λ f. Some (type_of_func f)) y.4.first in
        let second_typed : type_at q.run.store x.0 ≡ Some (type_in m y.1) = ap (λ o. o >>= λ f. Some (type_of_func f)) y.4.second in
        let k = at_code e.second_frame e.second_level e.second_outer e.second_level.values (Call index ∷ e.second_rest) in
        let there : q.run.entries ≡ Running k ∷ e.second_below = e.second_top ∙ ap (λ c. Running (at_code e.second_frame e.second_level e.second_outer e.second_level.values (c ++ e.second_rest)) ∷ e.second_below) code_is in
        arrives e (type_in m y.1) typed 0 x.0 (omega arith) k (subst (λ x. StutteringSteps (tick_loader w) 0 x (reached (Running k ∷ e.second_below))) (reached_first (Running k ∷ e.second_below) there) here)
        (direct_call q.run.store e.second_frame e.second_level e.second_outer (type_in m y.1) index x.0 e.second_rest e.second_level.values e.second_below x.1 second_typed) y.4

    -- ---- the call of what is in the function's slot ----

    module _ (e : ReplacementCode R r q.run) (slot : ℤ) (ty table : ℕ) (code_is : e.code ≡ I32Const slot ∷ (CallIndirect ty table ∷ [])) (x : CallsSlot env m moved e.second_frame.inst e.address slot ty table) where
      abbrev u : FuncType
      u = type_in m x.func

      -- The frames of the second run before and after the number of the slot is pushed.
      abbrev before_it : Frame
      before_it = at_code e.second_frame e.second_level e.second_outer e.second_level.values (I32Const slot ∷ (CallIndirect ty table ∷ e.second_rest))

      abbrev after_it : Frame
      after_it = at_code e.second_frame e.second_level e.second_outer (Num W32 (wrapped 32 slot) ∷ e.second_level.values) (CallIndirect ty table ∷ e.second_rest)

      pushed : StutteringSteps (tick_loader w) 1 q (reached (Running after_it ∷ e.second_below))
      pushed =
          let y = record q.run { moves = r.moves } in
          let gs = Running before_it ∷ e.second_below in
          let there : q.run.entries ≡ gs = e.second_top ∙ ap (λ c. Running (at_code e.second_frame e.second_level e.second_outer e.second_level.values (c ++ e.second_rest)) ∷ e.second_below) code_is in
          let goes = number_pushed q.run.store e.second_frame e.second_level e.second_outer ty table slot e.second_level.values e.second_rest e.second_below in
          subst (λ z. StutteringSteps (tick_loader w) 1 z (reached (Running after_it ∷ e.second_below))) (reached_first gs there)
          (before (ran_is w q (at y q.run.store gs) (at y q.run.store gs) q.run.store (Running after_it ∷ e.second_below) (step_is y q.run.store gs _ goes)) here)

      called : (c : ℕ) (d : Func) → slice_get h.funcs.table.slots x.place ≡ Some (FuncRef (Some c)) → slice_get q.run.store.funcs c ≡ Some d → type_of_func d ≡ u →
          step q.run.store (Running after_it ∷ e.second_below) ≡ bind (pop_typed u.params e.second_level.values) (λ p. enter_at q.run.store c p.0 (Running (at_code e.second_frame e.second_level e.second_outer p.1 e.second_rest) ∷ e.second_below))
      called c d refers is typed =
          slot_called q.run.store e.second_frame e.second_level e.second_outer u ty table slot c
          (record { type = x.type; address = slot_table_address env m; names = x.table_is; slots = h.funcs.table; stands = h.funcs.table_stands; refers = ap (slice_get h.funcs.table.slots) x.wrapped_is ∙ refers; function = d; is_function = is; typed = typed })
          e.second_level.values e.second_rest e.second_below

      -- The case in which the placeholder is called.
      waiting : (z : SlotIs env m moved w loaded r.store q h.funcs.table x.place x.func) → z.is_loaded ≡ false → slice_get h.funcs.table.slots x.place ≡ Some (FuncRef (Some (own_count Functions env + x.place))) →
          slice_get q.run.store.funcs (own_count Functions env + x.place) ≡ Some (Placeholder x.place u) → StepAnswered env m moved w first second most r q
      waiting z not_loaded refers stands =
          popped e u typed 1 (own_count Functions env + x.place) (omega arith) after_it pushed (called (own_count Functions env + x.place) (Placeholder x.place u) refers stands refl) goes
        where
          typed : type_at r.store e.address ≡ Some u
          typed = ap (type_at r.store) x.address_is ∙ ap (λ o. o >>= λ f. Some (type_of_func f)) (in_place laws answered namespace names m moved owns g env first second alike most loaded r q h x.place x.func x.is z not_loaded r.moves [] [] [] [] nil).code.first

          goes : EntersCallee e u typed 1 (own_count Functions env + x.place) after_it
          goes vs ws left right v stacks first_is second_is =
              loaded_first laws answered namespace names m moved owns g env first second alike most loaded r q h x.place x.func x.is z not_loaded r.moves vs ws (first_below e u typed left) (second_below e u typed right) v
              (direct (stack_still laws answered namespace names m moved owns g env first second alike most loaded r q h x.place x.func x.is z not_loaded r.moves vs ws (first_below e u typed left) (second_below e u typed right) v stacks))
              (first_is ∙ ap (λ a. Steps r (enter_at r.store a vs (first_below e u typed left))) x.address_is) 1 (omega arith) q.run.store (Running after_it ∷ e.second_below) pushed
              (second_is ∙ ap (λ o. bind (or_ill_typed o) (λ f. Gives (enter q.run.store f ws (second_below e u typed right)))) stands)

      in_the_slot : StepAnswered env m moved w first second most r q
      in_the_slot = from (h.funcs.slots x.place x.func x.is)
        where
          by : (z : SlotIs env m moved w loaded r.store q h.funcs.table x.place x.func) (b : Bool) → z.is_loaded ≡ b → SlotHolds env m moved loaded r.store q.run.store h.funcs.table x.place x.func b → StepAnswered env m moved w first second most r q
          by z _ is (waits refers stands) = waiting z is refers stands
          by z _ is (filled c refers code) =
              let here_too = subst (λ a. CodeAt R r.store q.run.store u a c) (sym x.address_is) code in
              arrives e u (ap (λ o. o >>= λ f. Some (type_of_func f)) here_too.first) 1 c (omega arith) after_it pushed (called c _ refers code.second refl) here_too

          from : SlotIs env m moved w loaded r.store q h.funcs.table x.place x.func → StepAnswered env m moved w first second most r q
          from z = by z z.is_loaded refl z.holds

    -- ---- either ----

    pub answered_instead : ReplacementCode R r q.run → StepAnswered env m moved w first second most r q
    answered_instead e = by e.code refl e.stands
      where
        by : (c : List Instr) → e.code ≡ c → may_stand env m moved loaded e.second_frame.inst e.address c ≡ true → StepAnswered env m moved w first second most r q
        by (I32Const slot ∷ (CallIndirect ty table ∷ [])) is stands = in_the_slot e slot ty table is (calls_slot env m moved e.second_frame.inst e.address slot ty table stands)
        by (Call index ∷ []) is stands = by_index e index is stands
        by _ is stands = absurd (let k = stands in cc)
