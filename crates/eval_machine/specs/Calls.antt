-- What the instantiation with the start, and the call of a constructor, leave in a machine.
use Rattle.std.specs.Prelude.{◌≡◌, ℕ, ◌≤◌, Option, Some, None, Result, Ok}
use Rattle.wasm_tree_spec.specs.Prelude.{Module}
use Rattle.eval_spec.specs.declared.limits.TheConstants.{MOST_TURNS}
use Rattle.eval_spec.specs.declared.stop.Stop.{Stop}
use Rattle.eval_spec.specs.Prelude.{Stopped, Finished, stop_of, left_behind, call_end, booted}
use Rattle.eval_machine.specs.declared.kept.Kept.{Kept}
use Rattle.eval_machine.specs.declared.machine.Booted.{Booted}
use Rattle.eval_machine.specs.declared.machine.Booted.TheVariants as booted
use Rattle.eval_machine.specs.declared.machine.Ran.{Ran}
use Rattle.eval_machine.specs.declared.machine.Ran.TheVariants as ran
use Rattle.eval_machine.specs.Kept.{Rests, state_in}

-- ---- the instantiation with the start ----

-- The instantiation and the start are finished, in the state of this machine.
pub record IsReady (m : Module) (k : Kept) : Type 0 where
  pub rests : Rests m k
  pub ends : booted m MOST_TURNS ≡ Finished (state_in m k)

-- The instantiation or the start is stopped for this reason.
abbrev pub StopsBoot : Module → Stop → Type 0
StopsBoot m x = stop_of (booted m MOST_TURNS) ≡ Some x

-- `P` holds of the machine, if there is one.
abbrev pub IfReady : (Kept → Type 0) → Booted → Type 0
IfReady P (booted.Ready k) = P k
IfReady P (booted.Stopped x) = Unit {0}

-- `P` holds of the stop, if there is one.
abbrev pub IfNotReady : (Stop → Type 0) → Booted → Type 0
IfNotReady P (booted.Ready k) = Unit {0}
IfNotReady P (booted.Stopped x) = P x

-- ---- the call of a function ----

-- The call is finished, in the state of `new`, or it was stopped and `new` has the turns that are
-- left.
abbrev pub CallEnds : Module → (func : ℕ) → (old : Kept) → Option Stop → (new : Kept) → Type 0
CallEnds m func old None new = call_end m (state_in m old) func ≡ Finished (state_in m new)
CallEnds m func old (Some x) new = call_end m (state_in m old) func ≡ Stopped x new.turns

-- The call is stopped, and `new` has the state before the call except for the turns that were
-- spent.
pub record StopsCall (m : Module) (func : ℕ) (old : Kept) (x : Stop) (new : Kept) : Type 0 where
  pub stop : stop_of (call_end m (state_in m old) func) ≡ Some x
  pub state : state_in m new ≡ left_behind (state_in m old) (call_end m (state_in m old) func)

-- The states are the same, except that `new` may have fewer turns left.
pub record SameButForTurns (m : Module) (old new : Kept) : Type 0 where
  pub state : state_in m new ≡ record (state_in m old) { turns = new.turns }
  pub turns : new.turns ≤ old.turns

-- `P` holds if the constructor returned.
abbrev pub IfDone : Type 0 → Ran → Type 0
IfDone P ran.Done = P
IfDone P (ran.Stopped x) = Unit {0}

-- `P` holds of the stop, if the constructor was stopped.
abbrev pub IfStopped : (Stop → Type 0) → Ran → Type 0
IfStopped P ran.Done = Unit {0}
IfStopped P (ran.Stopped x) = P x

-- `P` holds if the constructor was stopped or memory ran out.
abbrev pub IfNotDone : {E : Type 0} → Type 0 → Result Ran E → Type 0
IfNotDone P (Ok ran.Done) = Unit {0}
IfNotDone P _ = P
