-- Runs from related states have equal traces if the list is empty, since then no step begins a call
-- of a function on it.
use Rattle.base_lists.proofs.Common.{◌≡◌, ℕ, List, [], ◌∷◌, Bool, refl, sym}
use Rattle.wasm_tree_spec.specs.Prelude.{Space}
use Rattle.std.proofs.lemmas.Bool.{true≢false}
use Rattle.wasm_meaning.specs.Prelude.{Store, Entry, Running, Mark, Opening, Waiting, Ended, Growing, Act, ExternalValue, Text, Move, Call, Invoke, Run, tick, events_of}
use Rattle.base_simulation.proofs.Lockstep.{lockstep}
use Rattle.run_simulation.specs.Prelude.{Pairing, OneToOne, TopSkips, passed, Touches, EntryByEntry, MoveSkips, NextMoveSkips, TickSkips, RunsStepTogether}
use Rattle.run_simulation.specs.Laws.{NeedsBelow, RelatedRuns}
use Rattle.run_simulation.proofs.KnownNames.{entries_known}
use Rattle.run_simulation.proofs.StepsAgree.{none_called}
use Rattle.run_simulation.proofs.EntryByEntryRuns.{ticks_together}

needs : (es : List Entry) (x : Act) → NeedsBelow es [] [] x
needs (e ∷ es) (Act.Ends vs) = tt
needs [] (Act.Ends vs) = (refl, refl)
needs (e ∷ es) (Act.Goes c h) = tt
needs [] (Act.Goes c h) = tt
needs (e ∷ es) (Act.Calls a vs h) = tt
needs [] (Act.Calls a vs h) = tt
needs (e ∷ es) (Act.AsksGrow g m n h) = tt
needs [] (Act.AsksGrow g m n h) = tt

pub touches : (s : Store) (es : List Entry) → Touches s es [] []
touches s [] = (refl, refl)
touches s (Running f ∷ es) = λ x _. needs es x
touches s (Mark ∷ es) = tt
touches s (Opening xs ∷ es) = tt
touches s (Waiting ts ∷ es) = tt
touches s (Ended vs ∷ es) = tt
touches s (Growing g ∷ es) = tt

module _ (of : Space → ℕ → ℕ → Bool) where
  abbrev R : Pairing
  R = passed of of []

  no_opaque : (a : ℕ) → ¬ R.listed a
  no_opaque a p = true≢false (sym p)

  pub skips : (s : Store) (es : List Entry) → TopSkips R s es
  skips s (Running f ∷ es) = λ x _. none_called R no_opaque x
  skips s [] = tt
  skips s (Mark ∷ es) = tt
  skips s (Opening xs ∷ es) = tt
  skips s (Waiting ts ∷ es) = tt
  skips s (Ended vs ∷ es) = tt
  skips s (Growing g ∷ es) = tt

  move_skips : (view : List (Text × ExternalValue)) (shown : List ℕ) (m : Move) → MoveSkips R view shown m
  move_skips view shown (Call name xs) = λ a _. no_opaque a
  move_skips view shown (Invoke number xs) = λ a _. no_opaque a
  move_skips view shown _ = tt

  moves_skip : (view : List (Text × ExternalValue)) (shown : List ℕ) (ms : List Move) → NextMoveSkips R view shown ms
  moves_skip view shown [] = tt
  moves_skip view shown (m ∷ ms) = move_skips view shown m

  tick_skips : (r : Run) (es : List Entry) → TickSkips R r es
  tick_skips r [] = λ _. moves_skip r.view r.shown r.moves
  tick_skips r (Waiting ts ∷ es) = moves_skip r.view r.shown r.moves
  tick_skips r (Opening [] ∷ es) = tt
  tick_skips r (Opening (a ∷ more) ∷ es) = no_opaque a
  tick_skips r (Running f ∷ es) = skips r.store (Running f ∷ es)
  tick_skips r (Mark ∷ es) = tt
  tick_skips r (Ended vs ∷ es) = tt
  tick_skips r (Growing g ∷ es) = tt

  module _ (apart : OneToOne R) where
    pub together : (r q : Run) → RelatedRuns R r q → RunsStepTogether R (EntryByEntry R) r q (tick r) (tick q)
    together r q h = ticks_together R apart r q h (tick_skips r r.entries) (entries_known R (λ k a b p. p) r.entries q.entries)

    pub same_events : (n : ℕ) (r q : Run) → RelatedRuns R r q → events_of tick r n ≡ events_of tick q n
    same_events n r q h = lockstep tick tick (RelatedRuns R) (λ r q h. let o = (together r q h).out in record { event = o.event; states = o.run }) r q h n
