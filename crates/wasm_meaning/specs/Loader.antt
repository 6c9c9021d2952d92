-- A module under a loader. The loader supplies some imports of a primary module as placeholders,
-- each for a slot of one table of the primary module. Each slot belongs to one of several secondary
-- modules. The first call of a placeholder of a secondary module's slots instantiates that module
-- (WebAssembly Core 2.0, section 4.5.4), and each call of a placeholder goes to the function that
-- is then in its slot.
use Rattle.std.proofs.Common.{ℕ, suc, ◌+◌, ◌-◌, List, [], ◌∷◌, ◌++◌, map, length, Option, Some, None, Bool, true, false, cond, slice_get, slice_set, unwrap_or}
use Rattle.std.specs.Prelude.{nat_lt}
use Rattle.wasm_tree_spec.specs.Prelude.{Functions, FuncType, Import, ExportDesc, Module, same_func_type}
use Rattle.base_lists.specs.Options.{◌>>=◌}
use Rattle.wasm_meaning.specs.Outcomes.{Outcome, Gives, Traps, bind, or_ill_typed, with_entry}
use Rattle.wasm_meaning.specs.State.{Text, Pair, Val, Inst, Func, Placeholder, Store, Entry, Next, CallsPlaceholder}
use Rattle.wasm_meaning.specs.Tables.{with_table}
use Rattle.wasm_meaning.specs.Control.{type_at, func_ref}
use Rattle.wasm_meaning.specs.Step.{enter_at}
use Rattle.wasm_meaning.specs.Linking.{same_text, same_pair, first_place, pair_of, export_named}
use Rattle.wasm_meaning.specs.Environment.{Environment, ExternalValue, FuncAt, owned_of, flat}
use Rattle.wasm_meaning.specs.World.{Begun, Filled, or_trapped, own_count, own_store, all_there, address_in, start_in}
use Rattle.wasm_meaning.specs.Sequential.{Added, added_with, own_external_value}
use Rattle.wasm_meaning.specs.Run.{Run, Event, Move, Out, Transition, Steps, made, transition, fresh_run, run_after, events_of}

-- A secondary module, and the imports of the primary module, with their types, that the loader
-- supplies for it. Each has one slot.
pub record Secondary : Type 0 where
  pub «module» : Module
  pub placeholders : List (Pair × FuncType)

-- A primary module with the secondary modules that its loader supplies.
pub record LoaderWorld : Type 0 where
  pub primary : Module
  -- Their slots follow one another in this order.
  pub secondaries : List Secondary
  -- The module name under which secondary modules import what the primary module exports.
  pub import_namespace : Text
  -- The index of the table of slots in the primary module.
  pub slot_table : ℕ
  -- What the embedder sees of the primary module.
  pub view : List (Text × ExportDesc)

-- ---- slots ----

-- All placeholders, in the order of their slots.
abbrev pub placeholders_of : LoaderWorld → List (Pair × FuncType)
placeholders_of w = flat (λ s. s.placeholders) w.secondaries

-- Which secondary module of the list a slot belongs to, by its place in the list; `None` past the
-- last slot.
abbrev pub secondary_of : List Secondary → (slot : ℕ) → Option ℕ
secondary_of [] n = None
secondary_of (s ∷ ss) n = cond (nat_lt n (length s.placeholders)) (Some 0) (secondary_of ss (n - length s.placeholders) >>= λ j. Some (suc j))

-- ---- the primary module ----

abbrev pub placeholders_from : ℕ → List (Pair × FuncType) → List Func
placeholders_from n [] = []
placeholders_from n (p ∷ ps) = Placeholder n p.1 ∷ placeholders_from (suc n) ps

-- The environment's own entities, with the placeholders after its functions.
abbrev pub store_under : Environment → LoaderWorld → Store
store_under env w = let s = own_store env in record s { funcs = s.funcs ++ placeholders_from 0 (placeholders_of w) }

abbrev pub slot_of : LoaderWorld → Import → Option ℕ
slot_of w i = first_place (λ p. same_pair (pair_of i) p.0) (placeholders_of w) 0

abbrev pub placeholder_or_own : Environment → LoaderWorld → Import → Option ℕ → Option ExternalValue
placeholder_or_own env w i (Some n) = Some (FuncAt (own_count Functions env + n))
placeholder_or_own env w i None = own_external_value (owned_of env) w.primary i

-- What an import of the primary module denotes.
abbrev pub supplied : Environment → LoaderWorld → Import → Option ExternalValue
supplied env w i = placeholder_or_own env w i (slot_of w i)

abbrev pub primary_added : Environment → LoaderWorld → Option Added
primary_added env w = added_with (supplied env w) (store_under env w) w.primary

abbrev pub begun_of : Environment → LoaderWorld → Added → Option Begun
begun_of env w a =
    all_there (λ v. address_in a.inst v.1 >>= λ x. Some (v.0, x)) w.view >>= λ view.
    Some (record { store = a.filled.store; trapped = a.filled.trapped; starts = start_in a.inst w.primary.start; view = view; owned = owned_of env })

-- The instantiation of the primary module, which is one step.
abbrev pub begun_under : Environment → LoaderWorld → Option Begun
begun_under env w = primary_added env w >>= (begun_of env w)

-- ---- a secondary module ----

-- What an import of a secondary module denotes: what the primary module exports under the field
-- name, which exists once the primary module is allocated. An import from another namespace denotes
-- nothing.
abbrev pub supplied_by_primary : (namespace : Text) (primary : Module) → Inst → Import → Option ExternalValue
supplied_by_primary namespace primary i x = cond (same_text x.«module» namespace) (export_named primary.exports x.field >>= (address_in i)) None

abbrev pub if_no_start : {A : Type 0} → (start : Option ℕ) → Option A → Option A
if_no_start None a = a
if_no_start (Some f) a = None

-- Adds a secondary module. One with a start function does not link, because a call of a placeholder
-- is one step and a start takes steps of its own.
abbrev pub secondary_added : (namespace : Text) (primary : Module) → Inst → Module → Store → Option Added
secondary_added namespace primary i m s = if_no_start m.start (added_with (supplied_by_primary namespace primary i) s m)

-- The store in which the call of a placeholder goes on. A secondary module that is not loaded is
-- added first.
abbrev pub store_loaded : LoaderWorld → Inst → Module → (is_loaded : Bool) → Store → Filled
store_loaded w i m true s = record { store = s; trapped = false }
store_loaded w i m false s = or_trapped s (secondary_added w.import_namespace w.primary i m s >>= λ a. Some a.filled)

-- Calls a function if it has the type `t`, and traps if it has another type.
abbrev pub called_as : FuncType → Store → ℕ → List Val → List Entry → Outcome Next
called_as t s f vs es = bind (or_ill_typed (type_at s f)) (λ u. cond (same_func_type t u) (enter_at s f vs es) Traps)

-- Calls the function in the slot with the arguments of the placeholder. If the slot still holds a
-- placeholder, the call of that one traps (`run_after`).
abbrev pub slot_called : LoaderWorld → Inst → (slot : ℕ) → List Val → List Entry → Store → Outcome Next
slot_called w i slot vs es s =
    with_entry (placeholders_of w) slot (λ p. with_table (record { store = s; inst = i }) w.slot_table (λ a t. with_entry t.slots slot (λ r. bind (func_ref r) (λ f. called_as p.1 s f vs es))))

-- ---- runs ----

-- The run so far, the instance of the primary module, and for each secondary module whether its
-- instantiation was tried.
pub record LoaderRun : Type 0 where
  pub run : Run
  pub inst : Option Inst
  pub loaded : List Bool

abbrev pub loader_with : LoaderRun → Out → LoaderRun × Option Event
loader_with q o = (record q { run = o.0 }, o.1)

-- Answers the call of a placeholder. If its secondary module does not link or a segment traps, the
-- call traps, and what was written stays written.
abbrev pub call_answered : LoaderWorld → Inst → (slot : ℕ) → List Val → List Entry → Filled → Outcome Next
call_answered w i slot vs es f = cond f.trapped Traps (slot_called w i slot vs es f.store)

-- The instantiation of this secondary module was tried.
abbrev pub with_loaded : LoaderRun → (secondary : ℕ) → Run → LoaderRun
with_loaded q j r = record q { run = r; loaded = slice_set q.loaded j true }

-- Answers a call over the run `r`, whose entries `es` wait for it; a trap removes these down to the
-- nearest mark.
abbrev pub secondary_called : LoaderWorld → LoaderRun → Run → Inst → (slot : ℕ) → List Val → List Entry → (secondary : ℕ) → Filled → LoaderRun × Option Event
secondary_called w q r i slot vs es j f =
    let o = run_after (record r { store = f.store; entries = es }) (call_answered w i slot vs es f) in (with_loaded q j o.0, o.1)

-- Answers the call of a placeholder over the run `r`. `None` if the primary module has no instance
-- or there is no such slot; then no placeholder is called.
abbrev pub placeholder_called : LoaderWorld → LoaderRun → Run → (slot : ℕ) → List Val → Store → List Entry → Option (LoaderRun × Option Event)
placeholder_called w q r slot vs s es =
    q.inst >>= λ i. secondary_of w.secondaries slot >>= λ j. slice_get w.secondaries j >>= λ x. slice_get q.loaded j >>= λ is_loaded.
    Some (secondary_called w q r i slot vs es j (store_loaded w i x.«module» is_loaded s))

abbrev pub loader_made : LoaderWorld → LoaderRun → Transition → LoaderRun × Option Event
loader_made w q (Steps r (Gives (CallsPlaceholder slot vs s es))) = unwrap_or (placeholder_called w q r slot vs s es) (loader_with q (run_after (record r { store = s; entries = es }) Traps))
loader_made w q t = loader_with q (made t)

-- One step under a loader. A call of a placeholder is answered in the step that makes it, loading
-- included, whether code, a move (`Call` or `Invoke`) or a start makes it. Every other step is that
-- of a run.
abbrev pub tick_loader : LoaderWorld → LoaderRun → LoaderRun × Option Event
tick_loader w q = loader_made w q (transition q.run)

abbrev pub fresh_loader : Environment → LoaderWorld → List Move → LoaderRun
fresh_loader env w moves =
    record { run = fresh_run env (begun_under env w) moves; inst = primary_added env w >>= (λ a. Some a.inst); loaded = map (λ s. false) w.secondaries }

-- The trace of the first n steps under a loader.
abbrev pub events_loaded : LoaderWorld → Environment → List Move → ℕ → List Event
events_loaded w env moves n = events_of (tick_loader w) (fresh_loader env w moves) n
