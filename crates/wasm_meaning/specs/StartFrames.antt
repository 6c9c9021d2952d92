-- What the steps of a start function depend on: only its own entries of the stack.
use Rattle.std.proofs.Common.{◌≡◌, List, [], ◌∷◌, ◌++◌, Option, Some, None, Bool, true, false}
use Rattle.wasm_meaning.specs.Outcomes.{Gives}
use Rattle.wasm_meaning.specs.State.{Func, Store, Frame, Entry, Running, Starter, Opening, Waiting, Ran}
use Rattle.wasm_meaning.specs.Step.{give, to_mark}
use Rattle.wasm_meaning.specs.Run.{Event, InstanceTrapped, Phase, Closed, Run, Out, tick}

-- Entries that a start function can run on top of: given an empty list of values they stay as they
-- are, and a trap above them is a trap of the start.
pub record IsBottom (cs : List Entry) : Type 0 where
  pub gives : (s : Store) → give s [] cs ≡ Gives (Ran s cs)
  pub traps : to_mark cs ≡ Gives (Starter, [])

abbrev pub is_opening : Entry → Bool
is_opening (Opening xs) = true
is_opening _ = false

-- The entries of a start: the lowest gives no values to what is below it, and none above it is an
-- `Opening`.
pub data GivesNothing : List Entry → Type 0 where
  a_frame : {f : Frame} → f.results ≡ [] → GivesNothing (Running f ∷ [])
  a_call : GivesNothing (Waiting [] ∷ [])
  over : {e : Entry} {es : List Entry} → is_opening e ≡ false → GivesNothing es → GivesNothing (e ∷ es)

-- A step over `cs` in phase `p` and one over `ds` in phase `q` have the same result: the start goes
-- on or has ended, with the functions `funcs` in the store, or it trapped.
pub data AgreeOnFrames (cs ds : List Entry) (p q : Phase) (funcs : List Func) : Out → Out → Type 0 where
  goes_on : {event : Option Event} (r : Run) (es : List Entry) → r.store.funcs ≡ funcs → GivesNothing es →
      AgreeOnFrames cs ds p q funcs (record r { entries = es ++ cs; phase = p }, event) (record r { entries = es ++ ds; phase = q }, event)
  ended : (r : Run) → r.store.funcs ≡ funcs → AgreeOnFrames cs ds p q funcs (record r { entries = cs; phase = p }, None) (record r { entries = ds; phase = q }, None)
  trapped : (r : Run) → AgreeOnFrames cs ds p q funcs (record r { entries = []; phase = Closed }, Some InstanceTrapped) (record r { entries = []; phase = Closed }, Some InstanceTrapped)

-- If two runs differ only in what is below the entries of a start and in their phases, one step of
-- each has the same event, and afterwards they differ at most in these. The functions in the store
-- stay as they were, unless the start trapped.
abbrev pub StartDependsOnlyOnItsFrames : Type 0
StartDependsOnlyOnItsFrames =
    (cs ds es : List Entry) (p q : Phase) (r : Run) → IsBottom cs → IsBottom ds → GivesNothing es →
    AgreeOnFrames cs ds p q r.store.funcs (tick (record r { entries = es ++ cs; phase = p })) (tick (record r { entries = es ++ ds; phase = q }))
