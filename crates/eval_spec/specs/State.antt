-- The state of an evaluation: a store in which some places are unknown, and what is left to spend.
use Rattle.std.specs.Prelude.{ℕ, List, [], ◌∷◌, Bool, true, false, cond, Option, Some, None}
use Rattle.wasm_meaning.specs.State.{Store, Entry}
use Rattle.run_simulation.specs.UnknownPlaces.{Unknowns}
use Rattle.eval_spec.specs.declared.stop.Stop.{Stop}

-- The store is that of one module, in which each index is its own address, so that a function
-- reference determines an index. `unknown` has the places of which nothing is known; they hold a
-- zero or null that no step reads. `written` says for each block of the memory whether it was
-- written, and `turns` is the number of turns that are left.
pub record State : Type 0 where
  pub store : Store
  pub unknown : Unknowns
  pub written : List Bool
  pub turns : ℕ

-- The stage of a run: a call goes on with these entries; or something stopped the call or the
-- instantiation, and `left` turns are left; or the call or the instantiation is finished.
pub data Stage : Type 0 where
  Going : State → List Entry → Stage
  Stopped : Stop → (left : ℕ) → Stage
  Finished : State → Stage

-- A test before a step: whether something stops the step, what does, and how many turns are left
-- then.
pub record Test : Type 0 where
  pub holds : Bool
  pub stop : Stop
  pub left : ℕ

-- The first test that holds.
abbrev pub first_held : List Test → Option Test
first_held [] = None
first_held (test ∷ tests) = cond test.holds (Some test) (first_held tests)

abbrev pub stopped_or : Option Test → Stage → Stage
stopped_or (Some test) t = Stopped test.stop test.left
stopped_or None t = t

-- The stage `t`, unless a test holds, which stops the run.
abbrev pub tried : List Test → Stage → Stage
tried tests t = stopped_or (first_held tests) t

-- The stop of a stage, if it is stopped.
abbrev pub stop_of : Stage → Option Stop
stop_of (Stopped x left) = Some x
stop_of _ = None

abbrev pub is_going : Stage → Bool
is_going (Going s es) = true
is_going _ = false

abbrev pub is_finished : Stage → Bool
is_finished (Finished s) = true
is_finished _ = false

-- The state of a stage, if it is finished.
abbrev pub state_of : Stage → Option State
state_of (Finished s) = Some s
state_of _ = None

-- The state that a call leaves. After a stop, the store, what is unknown and the written blocks are
-- as before the call, and the turns stay spent. (The end of a call is never `Going`.)
abbrev pub left_behind : State → Stage → State
left_behind s (Finished t) = t
left_behind s (Stopped x left) = record s { turns = left }
left_behind s (Going t es) = s
