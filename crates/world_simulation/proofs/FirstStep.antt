-- The first step of a run, which instantiates its world.
use Rattle.base_lists.proofs.Common.{◌≡◌, arith, ℕ, zero, suc, List, [], Option, Some, Bool, refl}
use Rattle.wasm_tree_spec.specs.Prelude.{Space}
use Rattle.wasm_meaning.specs.Prelude.{Environment, Begun, Move, tick, events_of, fresh_run}
use Rattle.run_simulation.specs.Prelude.{Pairing, OneToOne, OptRel, none, some, nil, BegunRel, pending, closed, passed, EntryByEntry}
use Rattle.run_simulation.specs.Laws.{RelatedOuts, RelatedRunsHaveEqualTraces}

module _ (law : RelatedRunsHaveEqualTraces) (of : Space → ℕ → ℕ → Bool) (apart : OneToOne (passed of of [])) (env : Environment) (moves : List Move) where
  abbrev R : Pairing
  R = passed of of []

  -- The first step shows the same event in both runs, and leads to related runs.
  first_step : {b c : Begun} → BegunRel R (EntryByEntry R) b c → RelatedOuts R (tick (fresh_run env (Some b) moves)) (tick (fresh_run env (Some c) moves))
  first_step g = grind (arith, nil, closed, pending)

  pub runs_same : {b c : Option Begun} (n : ℕ) → OptRel (BegunRel R (EntryByEntry R)) b c → events_of tick (fresh_run env b moves) n ≡ events_of tick (fresh_run env c moves) n
  runs_same zero r = refl
  runs_same (suc n) none = refl
  runs_same (suc n) (some g) = let o = first_step g in rw (o.event, law of apart _ _ o.run n)
