-- Numbers stay in range in each state that an evaluation reaches, and no global holds a non-null
-- external reference.
use Rattle.base_lists.proofs.Common.{◌≡◌, ℕ, zero, suc, ◌-◌, List, [], ◌∷◌, Option, Some, None, slice_get, subst, every_at}
use Rattle.base_lists.specs.Every.{Every}
use Rattle.wasm_tree_spec.specs.Prelude.{Module}
use Rattle.wasm_valid.specs.Prelude.{IsValid, ItemsHold}
use Rattle.wasm_meaning.specs.Prelude.{Outcome, Gives, Traps, IllTyped, Val, Num, Ref, Func, Entry, Mark, Next, Ran, CallsOwn, WaitsGrowth, CallsPlaceholder, EndsCall, enter, step}
use Rattle.wasm_meaning.proofs.Outcomes.{AllOf, just}
use Rattle.eval_spec.specs.Prelude.{State, Stage, Going, Stopped, Finished, first_held, frame_turns, host_tests, tests, after_steps, call_end, came_to, host_call, host_opened_if_there, quiet_step, spent, weight, called_in_order, evaluated_within, after_start, instantiated}
use Rattle.eval_snapshot_proof.specs.Ranges.{BeginsInRange, EvaluatedGlobalsAreInRange, EvaluatedGlobalsAreExpressible, EvaluatedMemoriesAreInRange, IsExpressible, ValInRange}
use Rattle.eval_snapshot_proof.proofs.NumbersInSteps.{EntryIn, GlobalIn, MemoryIn, NextIn, StoreIn, enter_in, step_in}
use Rattle.eval_snapshot_proof.proofs.InstantiatedNumbers.{HeldIn, instantiated_in, tried_in}

module _ (m : Module) where
  came_in : (s : State) (ok : StoreIn s.store) (u : State) (o : Outcome Next) → AllOf (NextIn s.store ok) o → HeldIn (came_to u o)
  came_in s ok u Traps h = tt
  came_in s ok u IllTyped h = tt
  came_in s ok u (Gives (Ran t es)) (just h) = h
  came_in s ok u (Gives (EndsCall vs t es)) (just h) = h.0
  came_in s ok u (Gives (CallsOwn p t vs x es)) h = tt
  came_in s ok u (Gives (WaitsGrowth g n c x es)) h = tt
  came_in s ok u (Gives (CallsPlaceholder n vs x es)) h = tt

  quiet_in : (s : State) (es : List Entry) → StoreIn s.store → Every EntryIn es → HeldIn (quiet_step m s es)
  quiet_in s es ok k = tried_in (first_held (tests m s es)) (came_to (spent s es) (step s.store es)) (came_in s ok (spent s es) (step s.store es) (step_in s.store ok es k))

  after_in : (n : ℕ) (t : Stage) → HeldIn t → HeldIn (after_steps m n t)
  after_in zero t h = h
  after_in (suc n) (Going s es) h = after_in n (quiet_step m s es) (quiet_in s es h.0 h.1)
  after_in (suc n) (Stopped x left) h = tt
  after_in (suc n) (Finished s) h = h

  opened_in : (s : State) (o : Option Func) → StoreIn s.store → HeldIn (host_opened_if_there s o)
  opened_in s None ok = tt
  opened_in s (Some f) ok =
      let left = record s { turns = s.turns - frame_turns f } in
      let first = Gives (enter s.store f [] (Mark ∷ [])) in
      tried_in (first_held (host_tests s f)) (came_to left first) (came_in s ok left first (just (enter_in s.store ok f [] (Mark ∷ []) tt (tt, tt))))

  call_in : (s : State) (func : ℕ) → StoreIn s.store → HeldIn (call_end m s func)
  call_in s func ok = after_in (suc (weight (host_call s func))) (host_call s func) (opened_in s (slice_get s.store.funcs func) ok)

  called_in : (funcs : List ℕ) (t : Stage) → HeldIn t → HeldIn (called_in_order m t funcs)
  called_in [] (Finished s) h = h
  called_in [] (Stopped x left) h = tt
  called_in [] (Going s es) h = h
  called_in (func ∷ funcs) (Finished s) h = called_in funcs (call_end m s func) (call_in s func h)
  called_in (func ∷ funcs) (Stopped x left) h = tt
  called_in (func ∷ funcs) (Going s es) h = h

  started_in : (t : Stage) (start : Option ℕ) → HeldIn t → HeldIn (after_start m t start)
  started_in (Finished s) None h = h
  started_in (Finished s) (Some func) h = call_in s func h
  started_in (Stopped x left) start h = tt
  started_in (Going s es) start h = h

  evaluated_in : ItemsHold m → BeginsInRange m → (turns : ℕ) (funcs : List ℕ) (s : State) → evaluated_within m turns funcs ≡ Finished s → StoreIn s.store
  evaluated_in items begins turns funcs s e =
      subst HeldIn e (called_in funcs (after_start m (instantiated m turns) m.start) (started_in (instantiated m turns) m.start (instantiated_in m items begins turns)))

in_range : (v : Val) → IsExpressible v → ValInRange v
in_range (Num w n) h = h
in_range (Ref r) h = tt

pub globals_own : ((m : Module) → IsValid m → ItemsHold m) → EvaluatedGlobalsAreExpressible
globals_own items m v begins turns funcs s e n g at = every_at GlobalIn s.store.globals n g (evaluated_in m (items m v) begins turns funcs s e).globals at

pub globals_in : ((m : Module) → IsValid m → ItemsHold m) → EvaluatedGlobalsAreInRange
globals_in items m v begins turns funcs s e n g at = in_range g.value (globals_own items m v begins turns funcs s e n g at)

pub memories_in : ((m : Module) → IsValid m → ItemsHold m) → EvaluatedMemoriesAreInRange
memories_in items m v begins turns funcs s e n x at = let held = every_at MemoryIn s.store.mems n x (evaluated_in m (items m v) begins turns funcs s e).mems at in (held.0, held.2)
