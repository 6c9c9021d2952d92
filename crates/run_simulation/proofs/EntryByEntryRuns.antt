-- Stacks that are related entry by entry.
use Rattle.base_lists.proofs.Common.{◌≡◌, List, ◌∷◌, refl}
use Rattle.wasm_meaning.specs.Prelude.{Store, Entry, Frame, Running, Caller, step, to_mark, Run, tick}
use Rattle.run_simulation.specs.Prelude.{Pairing, OneToOne, ResRel, done, wrong, ListRel, nil, cons, FrameRel, EntryRel, running, mark, opening, waiting, ended, growing, NextRel, RunRel, EntryByEntry, EntriesKnown, TickSkips, RunsStepTogether}
use Rattle.run_simulation.proofs.RelatedOutcomes.{written, bind_rel_is}
use Rattle.base_lists.specs.Related.{PairRel}
use Rattle.run_simulation.proofs.StepsAgree.{TopView, top_none, top_mark, top_opening, top_waiting, top_ended, top_growing, top_running, act_rel}
use Rattle.run_simulation.proofs.StackRelations.{Shape, Held, unchanged, perform_rel, together}

module _ (R : Pairing) (apart : OneToOne R) where
  marks : {es fs : List Entry} → ListRel (EntryRel R) es fs → ResRel (PairRel (◌≡◌ {A = Caller}) (ListRel (EntryRel R))) (to_mark es) (to_mark fs)
  marks nil = wrong
  marks (cons mark e) = done (record { first = refl; second = e })
  marks (cons (opening x) e) = done (record { first = refl; second = e })
  marks (cons (running f) e) = marks e
  marks (cons waiting e) = marks e
  marks (cons (ended v) e) = marks e
  marks (cons (growing n) e) = marks e

  view : {s t : Store} {es fs : List Entry} → ListRel (EntryRel R) es fs → TopView R (written apart) (λ s t. ListRel (EntryRel R)) s t es fs
  view nil = top_none nil
  view (cons mark e) = top_mark e
  view (cons (opening x) e) = top_opening x e
  view (cons (running f) e) = top_running
  view (cons waiting e) = top_waiting e
  view (cons (ended v) e) = top_ended v e
  view (cons (growing n) e) = top_growing n e

  frames : {f g : Frame} {es fs : List Entry} → ListRel (EntryRel R) (Running f ∷ es) (Running g ∷ fs) → FrameRel R f g
  frames (cons (running p) e) = p

  again : {f g h k : Frame} {es fs : List Entry} → ListRel (EntryRel R) (Running f ∷ es) (Running g ∷ fs) → FrameRel R h k → ListRel (EntryRel R) (Running h ∷ es) (Running k ∷ fs)
  again (cons p e) q = cons (running q) e

  pub entries : Shape R apart (ListRel (EntryRel R))
  entries = record { nothing = nil; push = λ p e. cons p e; view = λ e. view e; frames = λ e. frames e; again = λ e _ _ q. again e q; marks = λ e. marks e }

  module _ (r q : Run) (h : RunRel R (EntryByEntry R) (EntryByEntry R) r q) where
    step_rel : {es fs : List Entry} → ListRel (EntryRel R) es fs → TickSkips R r es → EntriesKnown R es fs → ResRel (NextRel R (Held R apart (ListRel (EntryRel R)) entries r.phase r.store q.store)) (step r.store es) (step q.store fs)
    step_rel nil skips known = wrong
    step_rel (cons mark e) skips known = wrong
    step_rel (cons (opening x) e) skips known = wrong
    step_rel (cons waiting e) skips known = wrong
    step_rel (cons (ended v) e) skips known = wrong
    step_rel (cons (growing n) e) skips known = wrong
    step_rel (cons (running p) e) skips known =
        bind_rel_is (act_rel R (written apart) h.store p skips known) (λ x _ is a. perform_rel R apart (ListRel (EntryRel R)) entries r.phase r.store q.store h.store a (unchanged R apart (ListRel (EntryRel R)) entries r q h (cons (running p) e)) (skips x is) (λ _. e))

    pub ticks_together : TickSkips R r r.entries → EntriesKnown R r.entries q.entries → RunsStepTogether R (EntryByEntry R) r q (tick r) (tick q)
    ticks_together skips known = together R apart (ListRel (EntryRel R)) entries r q h skips (step_rel h.entries skips known)
