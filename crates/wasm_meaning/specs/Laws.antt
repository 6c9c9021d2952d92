-- Laws of runs and of joining imports by name.
use Rattle.std.proofs.Common.{◌≡◌, ℕ, ◌+◌, List, Some, ◌↔◌}
use Rattle.wasm_tree_spec.specs.Prelude.{ConstExpr}
use Rattle.wasm_meaning.specs.Linking.{Part, Site, End, Read, LeadsToEnd, end_of, Reads, read_of}
use Rattle.wasm_meaning.specs.Environment.{Environment}
use Rattle.wasm_meaning.specs.World.{World}
use Rattle.wasm_meaning.specs.Run.{Move, IsPrefix, events}
use Rattle.wasm_meaning.specs.Sequential.{events_sequential}
use Rattle.wasm_meaning.specs.Loader.{LoaderWorld, events_loaded}

-- Equal worlds, environments, moves and numbers of steps give equal traces.
abbrev pub RunsAreDetermined : Type 0
RunsAreDetermined = (v w : World) (d e : Environment) (ms ns : List Move) (m n : ℕ) → v ≡ w → d ≡ e → ms ≡ ns → m ≡ n → events v d ms m ≡ events w e ns n

-- The same for worlds under a loader.
abbrev pub LoadedRunsAreDetermined : Type 0
LoadedRunsAreDetermined = (v w : LoaderWorld) (d e : Environment) (ms ns : List Move) (m n : ℕ) → v ≡ w → d ≡ e → ms ≡ ns → m ≡ n → events_loaded v d ms m ≡ events_loaded w e ns n

-- The same for parts that are instantiated sequentially.
abbrev pub SequentialRunsAreDetermined : Type 0
SequentialRunsAreDetermined = (v w : World) (d e : Environment) (ms ns : List Move) (m n : ℕ) → v ≡ w → d ≡ e → ms ≡ ns → m ≡ n → events_sequential v d ms m ≡ events_sequential w e ns n

-- The trace of fewer steps is a prefix of the trace of more steps.
abbrev pub ShorterRunsArePrefixes : Type 0
ShorterRunsArePrefixes = (w : World) (env : Environment) (moves : List Move) (n k : ℕ) → IsPrefix (events w env moves n) (events w env moves (n + k))

-- The same for parts that are instantiated sequentially.
abbrev pub ShorterSequentialRunsArePrefixes : Type 0
ShorterSequentialRunsArePrefixes = (w : World) (env : Environment) (moves : List Move) (n k : ℕ) → IsPrefix (events_sequential w env moves n) (events_sequential w env moves (n + k))

-- The same for a module under a loader.
abbrev pub ShorterLoadedRunsArePrefixes : Type 0
ShorterLoadedRunsArePrefixes = (w : LoaderWorld) (env : Environment) (moves : List Move) (n k : ℕ) → IsPrefix (events_loaded w env moves n) (events_loaded w env moves (n + k))

-- The end of an import is where its path of joined imports and exports leads. An import whose path
-- does not end has no end.
abbrev pub EndsArePaths : Type 0
EndsArePaths = (parts : List Part) (s : Site) (e : End) → LeadsToEnd parts s e ↔ (end_of parts s ≡ Some e)

-- A constant expression reads what its path through joined globals ends with.
abbrev pub ReadsArePaths : Type 0
ReadsArePaths = (parts : List Part) (p : ℕ) (expr : ConstExpr) (r : Read) → Reads parts (record { part = p; expr = expr }) r ↔ (read_of parts p expr ≡ Some r)
