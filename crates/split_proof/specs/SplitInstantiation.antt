-- How a split begins under its loader, compared with the module alone.
use Rattle.std.specs.Prelude.{◌≡◌, ℕ, List, [], Some, None}
use Rattle.wasm_tree_spec.specs.Prelude.{Module}
use Rattle.wasm_meaning.specs.Prelude.{Environment, alone, instantiate, Run, Closed, LinkFault, InstanceTrapped, Move, Out, fresh_run, tick, begun_under}
use Rattle.run_simulation.specs.Prelude.{Pairing, OneToOne, OptRel, BegunRel, RunRel, IsBegun, FramesBetween}
use Rattle.split_spec.specs.declared.names.SplitNames.{SplitNames}
use Rattle.split_proof.specs.SplitWorlds.{split_world}
use Rattle.split_proof.specs.Addresses.{split_pairing}
use Rattle.split_proof.specs.SplitLaws.{CanBeSplit}

-- ---- addresses ----

-- the relation of addresses is one to one, whatever is loaded
abbrev pub SplitAddressesAreOneToOne : Type 0
SplitAddressesAreOneToOne =
    (namespace : ℕ → List ℕ) (names : SplitNames) (m : Module) (moved : List ℕ) (owns : List (List ℕ)) → CanBeSplit namespace names m moved owns → (env : Environment) (loaded : List (ℕ × ℕ)) →
    OneToOne (split_pairing env m moved loaded)

-- ---- instantiation ----

-- In every environment neither can be instantiated, or both can, to related states; then both trap
-- or neither.
abbrev pub SplitModulesBeginRelated : Type 0
SplitModulesBeginRelated =
    (namespace : ℕ → List ℕ) (names : SplitNames) (m : Module) (moved : List ℕ) (owns : List (List ℕ)) → CanBeSplit namespace names m moved owns → (env : Environment) →
    OptRel (BegunRel (split_pairing env m moved []) (FramesBetween (split_pairing env m moved []))) (instantiate env (alone m)) (begun_under env (split_world namespace names m moved owns))

-- ---- the first step ----

-- related runs, of which the second may have frames of trampolines in between
abbrev pub RunsRelated : Pairing → Run → Run → Type 0
RunsRelated R = RunRel R (FramesBetween R) (FramesBetween R)

-- the first steps of two runs agree
pub data FirstStepsAgree (R : Pairing) : Out → Out → Type 0 where
  -- neither links: both runs are closed, and they are equal
  unlinked : (r : Run) → r.entries ≡ [] → r.phase ≡ Closed → FirstStepsAgree R (r, Some LinkFault) (r, Some LinkFault)
  -- in both a segment traps
  trapped : {r q : Run} → r.entries ≡ [] → r.phase ≡ Closed → RunsRelated R r q → FirstStepsAgree R (r, Some InstanceTrapped) (q, Some InstanceTrapped)
  -- both are instantiated, and the starts come next
  begun : {r q : Run} → IsBegun r.phase → RunsRelated R r q → FirstStepsAgree R (r, None) (q, None)

-- in every environment the first steps of the module alone and of its split agree
abbrev pub FirstStepsOfSplitsAgree : Type 0
FirstStepsOfSplitsAgree =
    (namespace : ℕ → List ℕ) (names : SplitNames) (m : Module) (moved : List ℕ) (owns : List (List ℕ)) → CanBeSplit namespace names m moved owns → (env : Environment) (moves : List Move) →
    FirstStepsAgree (split_pairing env m moved []) (tick (fresh_run env (instantiate env (alone m)) moves)) (tick (fresh_run env (begun_under env (split_world namespace names m moved owns)) moves))
