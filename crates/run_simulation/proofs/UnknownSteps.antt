-- Steps and runs from stores that are related off a set of unknown places.
use Rattle.base_lists.proofs.Common.{◌≡◌, ℕ, List, [], refl, subst}
use Rattle.wasm_meaning.specs.Prelude.{Outcome, Gives, Store, Entry, Next, Ran, step}
use Rattle.run_simulation.specs.Prelude.{Pairing, OneToOneWhereWritten, ResRel, done, ListRel, EntryRel, ran, passed, Above, Unknowns, StoreRelOff, left_unknown, NextOff, here, step_on, KnownSteps, none_left, known_step, StepsAgreeOff, RunsAgreeOff}
use Rattle.run_simulation.specs.UnknownPlaces.{FollowsOff}
use Rattle.run_simulation.proofs.AboveSteps.{whole, entries_of, step_off}
use Rattle.run_simulation.proofs.EqualTraces.{touches}

pub steps_agree_off : StepsAgreeOff
steps_agree_off of named l apart u s t es fs cs ds h e touches free known reads = step_off (passed of named l) apart cs ds u h e touches free known reads

module _ (R : Pairing) (apart : OneToOneWhereWritten R) where
  -- A step of the second machine that answers a step of the first: it leaves a related store and a
  -- related stack.
  record Led (v : Unknowns) (s : Store) (es : List Entry) (t : Store) (fs : List Entry) : Type 0 where
    store : Store
    entries : List Entry
    steps : step t fs ≡ Gives (Ran store entries)
    related : StoreRelOff R v s store
    stack : ListRel (EntryRel R) es entries

  led : (v : Unknowns) (s t : Store) (es fs : List Entry) (o : Outcome Next) → ResRel (NextOff R v (Above R [] [])) o (step t fs) → o ≡ Gives (Ran s es) → Led v s es t fs
  led v s t es fs o r e = go (step t fs) refl (subst (λ x. ResRel (NextOff R v (Above R [] [])) x (step t fs)) e r)
    where
      go : (p : Outcome Next) → step t fs ≡ p → ResRel (NextOff R v (Above R [] [])) (Gives (Ran s es)) p → Led v s es t fs
      go _ i (done (ran h a)) = record { store = _; entries = _; steps = i; related = h; stack = entries_of R a }

  pub follows : {n : ℕ} {u v : Unknowns} {s r t : Store} {es gs fs : List Entry} → StoreRelOff R u s t → ListRel (EntryRel R) es fs → KnownSteps R n u s es v r gs → FollowsOff R n v r gs t fs
  follows {t = t} {fs = fs} h e none_left = record { store = t; entries = fs; steps = here; related = h; stack = e }
  follows {u = u} {s = s} {t = t} {es = es} {fs = fs} h e (known_step {t = s'} {fs = es'} reads free known is rest) =
      let agrees = step_off R apart [] [] u h e (touches s es) free (known fs e) reads in
      let next = led (left_unknown u s es) s' t es' fs (step s es) (whole (λ xs ys. ResRel (NextOff R (left_unknown u s es) (Above R [] [])) (step s xs) (step t ys)) es fs agrees) is in
      let more = follows next.related next.stack rest in
      record { store = more.store; entries = more.entries; steps = step_on next.steps more.steps; related = more.related; stack = more.stack }

pub runs_agree_off : RunsAgreeOff
runs_agree_off of named l apart n u v s r t es gs fs h e steps = follows (passed of named l) apart h e steps
