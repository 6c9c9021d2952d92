-- The laws that a split is observationally equivalent to the module, and that its secondary modules
-- can be loaded.
use Rattle.std.specs.Prelude.{◌≡◌, ℕ, ◌+◌, ◌*◌, ◌<◌, max, false, List, [], ◌∷◌, length, Some, None, slice_get}
use Rattle.std.specs.List.{flat_map}
use Rattle.std.specs.List.Sorted.{IsStrictlyIncreasing}
use Rattle.wasm_tree_spec.specs.Prelude.{Module, IsBounded}
use Rattle.wasm_valid.specs.Prelude.{IsValid}
use Rattle.base_simulation.specs.Machines.{state_after}
use Rattle.wasm_meaning.specs.Prelude.{Gives, Val, Inst, Store, Entry, CallsPlaceholder, Environment, is_environment, alone, Added, Run, Move, Steps, transition, Same, events, Secondary, LoaderWorld}
use Rattle.wasm_meaning.specs.Prelude.{LoaderRun, secondary_added, secondary_of, tick_loader, fresh_loader, events_loaded}
use Rattle.std.specs.Prelude.{IsTrue}
use Rattle.split_spec.specs.declared.names.SplitNames.{SplitNames}
use Rattle.split_spec.specs.Prelude.{params_of, namespace_taken, prefix_taken}
use Rattle.split_proof.specs.Premises.{CanMove}
use Rattle.split_proof.specs.SplitWorlds.{split_world}

-- ---- premises ----

-- The premises of both laws. `owns` has the moved functions of each secondary module; put together,
-- these lists are `moved`.
pub record CanBeSplit (namespace : ℕ → List ℕ) (names : SplitNames) (m : Module) (moved : List ℕ) (owns : List (List ℕ)) : Type 0 where
  pub valid : IsValid m
  pub bounded : IsBounded m
  pub can_move : CanMove m moved
  -- no function moves twice
  pub once : (i j func : ℕ) → slice_get moved i ≡ Some func → slice_get moved j ≡ Some func → i ≡ j
  pub lists : flat_map (λ own. own) owns ≡ moved
  -- nothing is imported from a namespace of placeholders
  pub namespaces : (slot : ℕ) → slot < length moved → namespace_taken (namespace slot) m ≡ None
  -- no export has an added name
  pub names_free : prefix_taken names.export_prefix m moved ≡ None

-- ---- what the laws say ----

-- the most parameters that one of these functions has
abbrev pub most_params : Module → List ℕ → ℕ
most_params m [] = 0
most_params m (func ∷ funcs) = max (length (params_of m func)) (most_params m funcs)

-- In every environment and for the same moves of the embedder, the trace of n steps of the module
-- is a prefix of the trace of (most + 8) (n + 1) steps under the loader, and the trace of n steps
-- under the loader is a prefix of the trace of n steps of the module. The law below has for `most`
-- the most parameters of a moved function, because a call of one may pass a trampoline.
abbrev pub ObservationallyEquivalent : Module → LoaderWorld → (most : ℕ) → Type 0
ObservationallyEquivalent m w most = Same (λ env. Unit {0}) (events (alone m)) (events_loaded w) (λ n. (most + 8) * (n + 1)) (λ n. n)

-- the secondary module links in this store, and none of its segments traps
pub record CanBeLoaded (w : LoaderWorld) (q : LoaderRun) (secondary : ℕ) (s : Store) : Type 0 where
  pub inst : Inst
  pub is_inst : q.inst ≡ Some inst
  pub loads : Secondary
  pub is_secondary : slice_get w.secondaries secondary ≡ Some loads
  pub added : Added
  pub links : secondary_added w.import_namespace w.primary inst loads.«module» s ≡ Some added
  pub fills : added.filled.trapped ≡ false

-- if the next step calls a placeholder of a secondary module that is not loaded, that module can be
-- loaded in the store of that call
abbrev pub LoadsWhereAsked : LoaderWorld → LoaderRun → Type 0
LoadsWhereAsked w q =
    (r : Run) (slot : ℕ) (vs : List Val) (s : Store) (es : List Entry) → transition q.run ≡ Steps r (Gives (CallsPlaceholder slot vs s es)) →
    (j : ℕ) → secondary_of w.secondaries slot ≡ Some j → slice_get q.loaded j ≡ Some false → CanBeLoaded w q j s

-- this holds before each step of each run, in every environment
abbrev pub AlwaysLoads : LoaderWorld → Type 0
AlwaysLoads w = (env : Environment) → IsTrue (is_environment env) → (moves : List Move) (n : ℕ) → LoadsWhereAsked w (state_after (tick_loader w) (fresh_loader env w moves) n)

-- ---- the laws ----

-- a split under its loader is observationally equivalent to the module
abbrev pub SplitModuleEquivalent : Type 0
SplitModuleEquivalent =
    (namespace : ℕ → List ℕ) (names : SplitNames) (m : Module) (moved : List ℕ) (owns : List (List ℕ)) → CanBeSplit namespace names m moved owns →
    ObservationallyEquivalent m (split_world namespace names m moved owns) (most_params m moved)

-- each secondary module of a split can be loaded wherever a run asks for it
abbrev pub SecondariesAlwaysLoad : Type 0
SecondariesAlwaysLoad =
    (namespace : ℕ → List ℕ) (names : SplitNames) (m : Module) (moved : List ℕ) (owns : List (List ℕ)) → CanBeSplit namespace names m moved owns →
    AlwaysLoads (split_world namespace names m moved owns)

-- a split with one secondary module has the premises, if the functions that move ascend, no import
-- has the namespace of the placeholders, and no export has an added name
abbrev pub PairsCanBeSplit : Type 0
PairsCanBeSplit =
    (names : SplitNames) (m : Module) (moved : List ℕ) → IsValid m → IsBounded m → CanMove m moved → IsStrictlyIncreasing moved → namespace_taken names.placeholder_namespace m ≡ None →
    prefix_taken names.export_prefix m moved ≡ None →
    CanBeSplit (λ slot. names.placeholder_namespace) names m moved (moved ∷ [])
