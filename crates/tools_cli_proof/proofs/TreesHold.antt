-- The module after evaluated constructors is a snapshot or the module as it is, and valid.
use Rattle.base_lists.proofs.Common.{◌≡◌, ◌∙◌, ap, sym, refl, subst, List, take, Option, Some, None, ◌⊎◌, inl, inr}
use Rattle.wasm_tree_spec.specs.Prelude.{Module, IsBounded}
use Rattle.wasm_valid.specs.Prelude.{IsSingle, IsValid}
use Rattle.module_limits.specs.Counts.{over_limit}
use Rattle.wasm_meaning.specs.Prelude.{Text}
use Rattle.eval_spec.specs.declared.limits.TheConstants.{MOST_TURNS}
use Rattle.eval_spec.specs.Prelude.{State, Stage, Going, Stopped, Finished, state_of, done_count, evaluated, state_at_end}
use Rattle.eval_snapshot_spec.specs.Evaluated.{evaluated_count, evaluated_tree, first_missing, funcs_named, tree_in}
use Rattle.eval_snapshot_spec.specs.Snapshot.{snapshot, too_much}
use Rattle.eval_snapshot_proof.specs.SuitableStates.{HasEmptyTypeFor, Suits}
use Rattle.eval_snapshot_proof.specs.TypedValues.{EmptyTypesAreThere, ValuesAreTyped}
use Rattle.tools_cli_spec.specs.Trees.{IsSnapshot, TreesAreBounded, TreesAreSingle, TreesAreSnapshots, TreesAreValid}
use Rattle.tools_cli_proof.proofs.FirstNames.{first_funcs, first_there}
use Rattle.tools_cli_proof.proofs.EvaluatedMemories.{no_bytes_there}

pub finished_state : (t : Stage) (s : State) → state_of t ≡ Some s → t ≡ Finished s
finished_state (Finished u) s e = let same : u ≡ s = cc in ap Finished same
finished_state (Stopped x left) s e = absurd (cc)
finished_state (Going u es) s e = absurd (cc)

-- The module is a snapshot of the state after the evaluated constructors, if there is one.
pub snapshot_at : (m : Module) (names kept : List Text) → first_missing m names ≡ None → (s : State) → state_at_end m (funcs_named m names) ≡ Some s → IsSnapshot m names kept
snapshot_at m names kept there s e = record {
  state = s;
  after = record {
    named = first_there m names (evaluated_count m names) there;
    end = s;
    quiet = ap (evaluated m) (first_funcs m names (evaluated_count m names) there) ∙ finished_state (evaluated m (take (done_count m (funcs_named m names)) (funcs_named m names))) s e;
    told = record { globals = λ n. refl; bytes = refl; dropped = λ n. refl };
  };
  tree = ap (tree_in m (take (evaluated_count m names) names) kept) e;
}

pub are_snapshots : TreesAreSnapshots
are_snapshots m names kept there = by (state_at_end m (funcs_named m names)) refl
  where
    by : (o : Option State) → state_at_end m (funcs_named m names) ≡ o → IsSnapshot m names kept ⊎ (evaluated_tree m names kept ≡ m)
    by None e = inr (ap (tree_in m (take (evaluated_count m names) names) kept) e)
    by (Some s) e = inl (snapshot_at m names kept there s e)

-- The laws on snapshots that the lemmas of this file use.
pub record Known : Type 0 where
  pub typed : ValuesAreTyped
  pub empty_type : EmptyTypesAreThere
  pub valid : (m : Module) (s : State) (evaluated kept : List Text) → IsValid m → Suits m s → HasEmptyTypeFor m evaluated → IsValid (snapshot m s evaluated kept)
  pub single : (m : Module) (s : State) (evaluated kept : List Text) → IsSingle m → IsSingle (snapshot m s evaluated kept)
  pub bounded : (m : Module) (s : State) (evaluated kept : List Text) → IsValid m → Suits m s → HasEmptyTypeFor m evaluated → IsBounded m → too_much m s evaluated kept ≡ None → IsBounded (snapshot m s evaluated kept)

module _ (k : Known) (m : Module) (names kept : List Text) (valid : IsValid m) (is : IsSnapshot m names kept) where
  abbrev ev : List Text
  ev = take (evaluated_count m names) names

  suits : Suits m is.state
  suits = record {
    globals = k.typed m ev is.state valid is.after;
    memory = λ none. is.after.told.bytes ∙ no_bytes_there m MOST_TURNS (funcs_named m ev) is.after.end is.after.quiet none;
  }

  snapshot_valid : IsValid (evaluated_tree m names kept)
  snapshot_valid = subst IsValid (sym is.tree) (k.valid m is.state ev kept valid suits (k.empty_type m ev is.state is.after))

  snapshot_bounded : IsBounded m → over_limit (evaluated_tree m names kept) ≡ None → IsBounded (evaluated_tree m names kept)
  snapshot_bounded bounded within = subst IsBounded (sym is.tree) (k.bounded m is.state ev kept valid suits (k.empty_type m ev is.state is.after) bounded (ap over_limit (sym is.tree) ∙ within))

pub are_valid : Known → TreesAreValid
are_valid k m names kept there valid = elim (are_snapshots m names kept there) [
  | inl is ↦ snapshot_valid k m names kept valid is
  | inr e ↦ subst IsValid (sym e) valid
]

pub are_single : Known → TreesAreSingle
are_single k m names kept there single = elim (are_snapshots m names kept there) [
  | inl is ↦ subst IsSingle (sym is.tree) (k.single m is.state (take (evaluated_count m names) names) kept single)
  | inr e ↦ subst IsSingle (sym e) single
]

pub are_bounded : Known → TreesAreBounded
are_bounded k m names kept there valid bounded within = elim (are_snapshots m names kept there) [
  | inl is ↦ snapshot_bounded k m names kept valid is bounded within
  | inr e ↦ subst IsBounded (sym e) bounded
]
