-- Steps of a run under a loader: those that call no placeholder are steps of the run, and one that
-- calls a placeholder continues in the function that is then in its slot.
use Rattle.std.specs.Prelude.{◌≡◌, ℕ, ◌<◌, Bool, false, List, Some, slice_get}
use Rattle.wasm_tree_spec.specs.Prelude.{FuncType}
use Rattle.base_simulation.specs.Machines.{events_of, state_after}
use Rattle.wasm_meaning.specs.Prelude.{Gives, Pair, FuncRef, Val, Inst, Table, Store, Entry, CallsPlaceholder, type_at, enter_at, Run, Out, Steps, transition, run_after, tick, Secondary, LoaderWorld}
use Rattle.wasm_meaning.specs.Prelude.{LoaderRun, placeholders_of, secondary_of, store_loaded, tick_loader}
use Rattle.wasm_meaning.specs.Loader.{with_loaded}
use Rattle.run_simulation.specs.Prelude.{calls_placeholder}

-- ---- no placeholder is called ----

-- a step that calls no placeholder is the step of the run
abbrev pub LoadersStepAsTheirRun : Type 0
LoadersStepAsTheirRun = (w : LoaderWorld) (q : LoaderRun) → calls_placeholder (transition q.run) ≡ false → tick_loader w q ≡ (record q { run = (tick q.run).0 }, (tick q.run).1)

-- `n` steps under the loader are those of the run
pub record GoesAsItsRun (w : LoaderWorld) (q : LoaderRun) (n : ℕ) : Type 0 where
  pub shown : events_of (tick_loader w) q n ≡ events_of tick q.run n
  pub state : state_after (tick_loader w) q n ≡ record q { run = state_after tick q.run n }

abbrev pub LoadersGoAsTheirRun : Type 0
LoadersGoAsTheirRun = (w : LoaderWorld) (q : LoaderRun) (n : ℕ) → ((k : ℕ) → k < n → calls_placeholder (transition (state_after tick q.run k)) ≡ false) → GoesAsItsRun w q n

-- ---- a placeholder is called ----

-- the secondary module of the slot is loaded, or was, without a trap, and then this function is in
-- the slot and has the type of the placeholder
pub record IsAnswered (w : LoaderWorld) (q : LoaderRun) (slot : ℕ) (s : Store) : Type 0 where
  pub inst : Inst
  pub is_inst : q.inst ≡ Some inst
  pub secondary : ℕ
  pub is_place : secondary_of w.secondaries slot ≡ Some secondary
  pub loads : Secondary
  pub is_secondary : slice_get w.secondaries secondary ≡ Some loads
  pub is_loaded : Bool
  pub loaded : slice_get q.loaded secondary ≡ Some is_loaded
  pub after : Store
  pub fills : store_loaded w inst loads.«module» is_loaded s ≡ record { store = after; trapped = false }
  pub placeholder : Pair × FuncType
  pub is_placeholder : slice_get (placeholders_of w) slot ≡ Some placeholder
  pub address : ℕ
  pub names : slice_get inst.tables w.slot_table ≡ Some address
  pub table : Table
  pub stands : slice_get after.tables address ≡ Some table
  pub func : ℕ
  pub refers : slice_get table.slots slot ≡ Some (FuncRef (Some func))
  pub typed : type_at after func ≡ Some placeholder.1

-- the run that enters that function, over the entries that wait
abbrev pub answered_out : {w : LoaderWorld} {q : LoaderRun} {slot : ℕ} {s : Store} → IsAnswered w q slot s → Run → List Val → List Entry → Out
answered_out a r vs es = run_after (record r { store = a.after; entries = es }) (enter_at a.after a.func vs es)

-- a step that calls a placeholder continues in the function that is then in its slot
abbrev pub PlaceholdersAreAnswered : Type 0
PlaceholdersAreAnswered =
    (w : LoaderWorld) (q : LoaderRun) (r : Run) (slot : ℕ) (vs : List Val) (s : Store) (es : List Entry) → transition q.run ≡ Steps r (Gives (CallsPlaceholder slot vs s es)) →
    (a : IsAnswered w q slot s) →
    tick_loader w q ≡ (with_loaded q a.secondary (answered_out a r vs es).0, (answered_out a r vs es).1)
