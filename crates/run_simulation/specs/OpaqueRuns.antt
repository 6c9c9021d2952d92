-- Runs with opaque functions: which steps begin a call of one, and that every other step of two
-- related runs has the same event and leaves the runs related.
use Rattle.std.proofs.Common.{◌≡◌, ℕ, List, [], ◌∷◌, Some, Bool, true, false, slice_get}
use Rattle.wasm_tree_spec.specs.Prelude.{Space}
use Rattle.base_lists.specs.Options.{◌>>=◌}
use Rattle.wasm_meaning.specs.Prelude.{Gives, Text, Store, Entry, Opening, Waiting, CallsPlaceholder, same_text, ExternalValue, look_up, func_of, Move, Call, Invoke, Opened, Run, Out, Transition}
use Rattle.wasm_meaning.specs.Prelude.{Steps, tick}
use Rattle.run_simulation.specs.Related.{Pairing, OneToOne, TopSkips}
use Rattle.run_simulation.specs.RelatedRuns.{OutRel, turned, KeepsOthers, IsBegun}
use Rattle.run_simulation.specs.Laws.{CodeTest, passed_with, EntriesKnown, EntryByEntry, RelatedRuns}

-- ---- steps that begin no call of an opaque function ----

-- The move calls no opaque function, by a name of the view or by the number of a function that was
-- shown.
abbrev pub MoveSkips : Pairing → (view : List (Text × ExternalValue)) → (shown : List ℕ) → Move → Type 0
MoveSkips R view shown (Call name values) = (a : ℕ) → (look_up (same_text name) view >>= func_of) ≡ Some a → ¬ R.listed a
MoveSkips R view shown (Invoke number values) = (a : ℕ) → slice_get shown number ≡ Some a → ¬ R.listed a
MoveSkips R view shown _ = Unit {0}

abbrev pub NextMoveSkips : Pairing → (view : List (Text × ExternalValue)) → (shown : List ℕ) → List Move → Type 0
NextMoveSkips R view shown [] = Unit {0}
NextMoveSkips R view shown (m ∷ ms) = MoveSkips R view shown m

-- The next step of the run begins no call of an opaque function: neither the frame on top, nor a
-- start, nor the next move does.
abbrev pub TickSkips : Pairing → Run → List Entry → Type 0
TickSkips R r [] = r.phase ≡ Opened → NextMoveSkips R r.view r.shown r.moves
TickSkips R r (Waiting ts ∷ es) = NextMoveSkips R r.view r.shown r.moves
TickSkips R r (Opening (a ∷ starts) ∷ es) = ¬ R.listed a
TickSkips R r es = TopSkips R r.store es

-- The step calls a placeholder.
abbrev pub calls_placeholder : Transition → Bool
calls_placeholder (Steps r (Gives (CallsPlaceholder slot vs s es))) = true
calls_placeholder _ = false

-- ---- what such a step leaves ----

-- Both steps have the same event and leave the runs related, their stacks by `B`. Once the runs are
-- instantiated, the functions and what is at addresses without a partner in the other store are as
-- they were.
pub record RunsStepTogether (R : Pairing) (B : Store → Store → List Entry → List Entry → Type 0) (r q : Run) (o p : Out) : Type 0 where
  pub out : OutRel R B B o p
  pub first : IsBegun r.phase → KeepsOthers (turned R) r.store o.0.store
  pub second : IsBegun r.phase → KeepsOthers R q.store p.0.store

-- ---- the law ----

-- The law for one step of each of two runs, related by a relation that is one to one, functions
-- included: the step begins no call of an opaque function, and the next instructions name related
-- addresses.
abbrev pub RunsWithOpaqueFunctionsAgree : Type 0
RunsWithOpaqueFunctionsAgree =
    (of named : Space → ℕ → ℕ → Bool) (l : List ℕ) (stands : CodeTest) → OneToOne (passed_with of named l stands) → (r q : Run) → RelatedRuns (passed_with of named l stands) r q →
    TickSkips (passed_with of named l stands) r r.entries → EntriesKnown (passed_with of named l stands) r.entries q.entries →
    RunsStepTogether (passed_with of named l stands) (EntryByEntry (passed_with of named l stands)) r q (tick r) (tick q)
