-- The module after evaluated constructors is observationally equivalent to the original module, and
-- the machine evaluates these constructors too.
use Rattle.std.proofs.Common.{◌≡◌, ◌∙◌, ap, sym, refl, subst, List, [], ◌∷◌, take, Option, Some, None, ◌⊎◌, inl, inr}
use Rattle.wasm_tree.specs.declared.module.Module.{Module}
use Rattle.wasm_valid.specs.Validity.{IsValid}
use Rattle.wasm_meaning.specs.State.{Text}
use Rattle.eval_spec.specs.State.{State, Stage, Going, Stopped, Finished, state_of}
use Rattle.eval_spec.specs.Evaluation.{IsQuiet, evaluated, state_at_end}
use Rattle.eval_proof.specs.EndsAndCounts.{CountedAreQuiet, NoneCountedBefore}
use Rattle.eval_snapshot_proof.specs.Ranges.{BeginsInRange}
use Rattle.eval_snapshot_spec.specs.Evaluated.{evaluated_count, evaluated_tree, first_missing, funcs_named, tree_in}
use Rattle.eval_snapshot_spec.specs.After.{IsAfter}
use Rattle.eval_snapshot_proof.specs.QuietRunAddresses.{QuietRunsAreTheMachines, QuietStartsAreTheMachines}
use Rattle.eval_snapshot_proof.specs.EquivalenceLaws.{ObservationallyEquivalent, NoneIsEquivalent, SnapshotEquivalent}
use Rattle.tools_cli_spec.specs.Trees.{AreEvaluatedAsByTheMachine, EvaluatedAsByTheMachine, IsSnapshot, TreesBehave}
use Rattle.tools_cli_proof.proofs.TreesHold.{finished_state, snapshot_at}

-- The instantiation with the start is quiet, or something stops it.
quiet_or_not : (m : Module) → IsQuiet m [] ⊎ ¬ IsQuiet m []
quiet_or_not m = by (evaluated m []) refl
  where
    by : (t : Stage) → evaluated m [] ≡ t → IsQuiet m [] ⊎ ¬ IsQuiet m []
    by (Finished s) e = inl (s, e)
    by (Stopped x left) e = inr (λ q. let f = sym e ∙ q.1 in cc)
    by (Going s es) e = inr (λ q. let f = sym e ∙ q.1 in cc)

module _ (counted : CountedAreQuiet) (none : NoneCountedBefore) (same : SnapshotEquivalent) (itself : NoneIsEquivalent) where
  -- A snapshot is taken if the instantiation is quiet.
  taken : (m : Module) (names kept : List Text) → IsSnapshot m names kept → IsValid m → BeginsInRange m → ObservationallyEquivalent m (take (evaluated_count m names) names) kept (evaluated_tree m names kept)
  taken m names kept is valid begins =
      subst (ObservationallyEquivalent m (take (evaluated_count m names) names) kept) (sym is.tree) (same m (take (evaluated_count m names) names) kept is.state valid begins is.after)

  quietly : (m : Module) (names kept : List Text) → first_missing m names ≡ None → IsQuiet m [] → IsValid m → BeginsInRange m → ObservationallyEquivalent m (take (evaluated_count m names) names) kept (evaluated_tree m names kept)
  quietly m names kept there quiet valid begins =
      let q = counted m (funcs_named m names) quiet in
      taken m names kept (snapshot_at m names kept there q.0 (ap state_of q.1)) valid begins

  -- No constructor is evaluated if something stops the instantiation.
  stopped : (m : Module) (names kept : List Text) → ¬ IsQuiet m [] → ObservationallyEquivalent m (take (evaluated_count m names) names) kept (evaluated_tree m names kept)
  stopped m names kept unquiet = by (state_at_end m (funcs_named m names)) refl
    where
      zero : evaluated_count m names ≡ 0
      zero = none m (funcs_named m names) unquiet

      by : (o : Option State) → state_at_end m (funcs_named m names) ≡ o → ObservationallyEquivalent m (take (evaluated_count m names) names) kept (evaluated_tree m names kept)
      by (Some s) e =
          let end = finished_state (evaluated m (take (evaluated_count m names) (funcs_named m names))) s e in
          absurd (unquiet (s, subst (λ n. evaluated m (take n (funcs_named m names)) ≡ Finished s) zero end))
      by None e =
          let same_tree : evaluated_tree m names kept ≡ m = ap (tree_in m (take (evaluated_count m names) names) kept) e in
          subst (λ n. ObservationallyEquivalent m (take n names) kept (evaluated_tree m names kept)) (sym zero) (subst (ObservationallyEquivalent m [] kept) (sym same_tree) (itself m kept))

  pub behave : TreesBehave
  behave m names kept there valid begins = elim (quiet_or_not m) [
    | inl quiet ↦ quietly m names kept there quiet valid begins
    | inr unquiet ↦ stopped m names kept unquiet
  ]

module _ (counted : CountedAreQuiet) (none : NoneCountedBefore) (machines : QuietRunsAreTheMachines) (starts : QuietStartsAreTheMachines) where
  of_none : (m : Module) (kept : List Text) → IsValid m → EvaluatedAsByTheMachine m [] kept
  of_none m kept valid = λ end quiet env ok linked. starts m end valid quiet env ok linked

  -- Constructors whose quiet evaluation ends in a state are evaluated as by the machine.
  after_them : (m : Module) (names kept : List Text) (s : State) → IsValid m → IsAfter m names s → EvaluatedAsByTheMachine m names kept
  after_them m [] kept s valid is = of_none m kept valid
  after_them m (name ∷ names) kept s valid is = (is.end, is.quiet, λ env ok linked. machines m name names kept is.end valid is.named is.quiet env ok linked)

  pub run_them : AreEvaluatedAsByTheMachine
  run_them m names kept there valid = elim (quiet_or_not m) [
    | inl quiet ↦
        let q = counted m (funcs_named m names) quiet in
        let is = snapshot_at m names kept there q.0 (ap state_of q.1) in
        after_them m (take (evaluated_count m names) names) kept is.state valid is.after
    | inr unquiet ↦ subst (λ n. EvaluatedAsByTheMachine m (take n names) kept) (sym (none m (funcs_named m names) unquiet)) (of_none m kept valid)
  ]
