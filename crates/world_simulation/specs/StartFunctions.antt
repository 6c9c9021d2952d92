-- One start that calls several functions, in place of these functions as starts one after the
-- other.
use Rattle.std.specs.Prelude.{◌≡◌, ℕ, ◌+◌, List, [], ◌∷◌, map, Some, slice_get}
use Rattle.wasm_tree_spec.specs.Prelude.{FuncType, Call}
use Rattle.wasm_meaning.specs.Prelude.{Inst, Code, Store, type_at, Environment, Begun, Move, tick, events_of, IsPrefix, fresh_run}
use Rattle.run_simulation.specs.Prelude.{ListRel}

abbrev pub from_nothing_to_nothing : FuncType
from_nothing_to_nothing = record { params = []; results = [] }

-- the index names the function, which has type [] to []
pub record NamesStart (s : Store) (inst : Inst) (n a : ℕ) : Type 0 where
  pub named : slice_get inst.funcs n ≡ Some a
  pub typed : type_at s a ≡ Some from_nothing_to_nothing

-- the function at `a` calls these one after the other, and does nothing else
pub record CallsEach (s : Store) (a : ℕ) (starts : List ℕ) : Type 0 where
  pub inst : Inst
  pub calls : List ℕ
  pub code : slice_get s.funcs a ≡ Some (Code from_nothing_to_nothing inst [] (map Call calls))
  pub each : ListRel (NamesStart s inst) calls starts

-- The trace with the starts one after the other is a prefix of the trace, two steps longer, with
-- the one start that calls them: one step opens it, and one ends it. The other way round no more
-- steps are needed.
abbrev pub OneStartMayCallSeveral : Type 0
OneStartMayCallSeveral =
    (env : Environment) (b : Begun) (a : ℕ) → CallsEach b.store a b.starts → (moves : List Move) (n : ℕ) →
    IsPrefix (events_of tick (fresh_run env (Some b) moves) n) (events_of tick (fresh_run env (Some (record b { starts = a ∷ [] })) moves) (n + 2))
    × IsPrefix (events_of tick (fresh_run env (Some (record b { starts = a ∷ [] })) moves) n) (events_of tick (fresh_run env (Some b) moves) n)
