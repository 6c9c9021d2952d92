-- A module whose constructors are evaluated, as a world. The first step makes the whole evaluation,
-- and the next opens the view, which has the names of the snapshot (WebAssembly Core 2.0, sections
-- 4.5.4 and 4.5.5).
use Rattle.std.specs.Prelude.{ℕ, suc, ◌+◌, ◌*◌, List, [], ◌∷◌, ◌++◌, map, length, Option, Some, None, slice_get}
use Rattle.std.specs.List.{filter_map}
use Rattle.base_lists.specs.Options.{◌>>=◌, all_there}
use Rattle.wasm_tree_spec.specs.Prelude.{Functions, Export, Module, funcs_of}
use Rattle.wasm_meaning.specs.Prelude.{Outcome, Gives, Text, Store, Mark, Next, Ran, EndsCall, step, enter_at, Environment, World, Begun, alone, space, instantiate, Move, Event, tick, fresh_run}
use Rattle.wasm_meaning.specs.Prelude.{events_of, events}
use Rattle.world_simulation.specs.Prelude.{one}
use Rattle.eval_spec.specs.declared.limits.TheConstants.{MOST_TURNS}
use Rattle.eval_snapshot_spec.specs.Snapshot.{export_left, empty_func}
use Rattle.eval_snapshot_spec.specs.Evaluated.{funcs_named}

-- ---- calls by the embedder, to their ends (section 4.5.5) ----

-- The store at the end of a call, after this step and at most `most` others; `None` if the call
-- does not end in these, traps, or waits for the embedder.
abbrev pub store_at_end : (most : ℕ) → Outcome Next → Option Store
store_at_end most (Gives (EndsCall vs s es)) = Some s
store_at_end (suc n) (Gives (Ran s es)) = store_at_end n (step s es)
store_at_end most _ = None

-- No quiet call makes more steps: each turn opens at most one frame or label besides the first, and
-- each of these ends once.
abbrev pub most_steps : ℕ
most_steps = 2 * MOST_TURNS + 2

-- The store at the end of a call of a function without arguments, if the call ends.
abbrev pub called_to_end : Store → (address : ℕ) → Option Store
called_to_end s a = store_at_end most_steps (enter_at s a [] (Mark ∷ []))

-- The store after several functions were called in order, if each call ends.
abbrev pub all_called : Store → List ℕ → Option Store
all_called s [] = Some s
all_called s (a ∷ addresses) = called_to_end s a >>= λ t. all_called t addresses

-- ---- the world ----

-- The module with one more function, the empty function.
abbrev pub with_empty_func : Module → Module
with_empty_func m = record m { funcs = m.funcs ++ empty_func m ∷ [] }

-- The exports of the snapshot; those of evaluated constructors denote the additional function.
abbrev pub exports_left : Module → (evaluated kept : List Text) → List Export
exports_left m evaluated kept = filter_map (export_left evaluated kept (length (funcs_of m))) m.exports

-- The world of this module alone, whose view has these exports.
abbrev pub evaluated_world : Module → (evaluated kept : List Text) → World
evaluated_world m evaluated kept = record {
  parts = one (with_empty_func m);
  view = map (λ e. (e.name, record { part = 0; what = e.desc })) (exports_left m evaluated kept);
}

-- The addresses of functions of the module.
abbrev pub addresses_of : Environment → Module → List ℕ → Option (List ℕ)
addresses_of env m funcs = space env (one m) Functions 0 m >>= λ addresses. all_there (slice_get addresses) funcs

-- After the instantiation, the starts and these functions are called; no start is left.
abbrev pub evaluated_from : Begun → (constructors : List ℕ) → Option Begun
evaluated_from b constructors = all_called b.store (b.starts ++ constructors) >>= λ s. Some (record b { store = s; starts = [] })

-- What the first step makes of the world: the instantiation, the start and the calls of the
-- constructors. It is `None` if the environment does not link the world, a constructor does not
-- exist, or the start or a constructor traps, waits for the embedder or does not end within
-- `most_steps`. (For evaluated constructors of a valid module, an environment that links the module
-- rules this out: `quiet_runs_are_the_machines`.)
abbrev pub evaluated_begun : Environment → Module → (evaluated kept : List Text) → Option Begun
evaluated_begun env m evaluated kept =
    instantiate env (evaluated_world m evaluated kept) >>= λ b. addresses_of env (with_empty_func m) (funcs_named m evaluated) >>= λ constructors. evaluated_from b constructors

-- The same if no constructor is evaluated: the instantiation of the module itself, and its start.
abbrev pub started_begun : Environment → Module → Option Begun
started_begun env m = instantiate env (alone m) >>= λ b. evaluated_from b []

-- The trace of the first n steps. If no constructor is evaluated, it is that of the module's own
-- world.
abbrev pub events_evaluated : Module → (evaluated kept : List Text) → Environment → List Move → ℕ → List Event
events_evaluated m [] kept env moves n = events (alone m) env moves n
events_evaluated m (name ∷ names) kept env moves n = events_of tick (fresh_run env (evaluated_begun env m (name ∷ names) kept) moves) n
