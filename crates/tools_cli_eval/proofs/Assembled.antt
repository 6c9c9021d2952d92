-- The module after the calls that came to their ends.
use Rattle.base_lists.proofs.Common.{◌≡◌, ◌∙◌, ap, sym, refl, subst, ℕ, suc, ◌≤◌, arith, List, [], ◌∷◌, length, take, Option, Some, None, option_map, cons_option, option_or}
use Rattle.wasm_tree_spec.specs.Prelude.{Which, Module}
use Rattle.module_limits.specs.Counts.{over_limit}
use Rattle.wasm_meaning.specs.Prelude.{Text}
use Rattle.eval_spec.specs.declared.limits.TheConstants.{MOST_TURNS}
use Rattle.eval_spec.specs.declared.stop.Stop.{Stop}
use Rattle.eval_spec.specs.Prelude.{State, Stage, Going, Stopped, Finished, state_of, stop_of, booted, called_in_order, calls_finished, evaluated, state_at_end, stopped_by}
use Rattle.eval_machine.specs.declared.kept.Kept.{Kept}
use Rattle.eval_machine.specs.Prelude.{IsReady, state_in}
use Rattle.eval_machine.specs.Calls.{StopsBoot}
use Rattle.eval_snapshot_spec.specs.After.{IsAfter, TellsTheSame}
use Rattle.eval_snapshot_spec.specs.Evaluated.{evaluated_count, evaluated_tree, first_missing, func_named, funcs_named, tree_in}
use Rattle.eval_snapshot_spec.specs.Snapshot.{declared_snapshot, snapshot}
use Rattle.tools_cli_spec.specs.declared.evaluation.EvalFault.{EvalFault}
use Rattle.tools_cli_spec.specs.declared.evaluation.EvalFault.TheVariants.{NoSuchExport, TooMany}
use Rattle.tools_cli_eval.specs.declared.evaluation.Evaluation.{Evaluation}
use Rattle.tools_cli_spec.specs.declared.evaluation.Ending.TheVariants.{Instantiation}
use Rattle.tools_cli_eval.specs.declared.running.Calls.{Calls}
use Rattle.tools_cli_eval.specs.Calls.{HaveEnded}
use Rattle.tools_cli_eval.specs.Evaluations.{IsEvaluation}
use Rattle.tools_cli_spec.specs.Endings.{ended, fault_of}
use Rattle.tools_cli_proof.proofs.FirstNames.{first_there, first_funcs}

-- A snapshot does not depend on the turns that are left.
turns_aside : (m : Module) (s : State) (t : ℕ) (evaluated kept : List Text) → snapshot m (record s { turns = t }) evaluated kept ≡ snapshot m s evaluated kept
unfolding declared_snapshot
turns_aside m s t [] kept = refl
turns_aside m s t (name ∷ names) kept = refl

-- Names have no more functions than there are names.
few_funcs : (m : Module) (names : List Text) → length (funcs_named m names) ≤ length names
few_funcs m [] = omega arith
few_funcs m (name ∷ names) = by (func_named m name) (few_funcs m names)
  where
    by : (o : Option ℕ) → length (funcs_named m names) ≤ length names → length (cons_option o (funcs_named m names)) ≤ suc (length names)
    by None h = omega (arith, h)
    by (Some func) h = omega (arith, h)

module _ (m : Module) (names : List Text) (there : first_missing m names ≡ None) (calls : Calls) (k : Kept) (over : HaveEnded m (funcs_named m names) calls k) where
  abbrev first : List Text
  first = take calls.count names

  pub few_called : calls.count ≤ length names
  few_called = let f = over.few in let g = few_funcs m names in omega (arith, f, g)

  pub machine_is_after : IsAfter m first (state_in m k)
  machine_is_after = record {
    named = first_there m names calls.count there;
    end = over.end;
    quiet = ap (evaluated m) (first_funcs m names calls.count there) ∙ over.quiet;
    told = subst (λ (s : State). TellsTheSame m s over.end) (sym over.state) (record { globals = λ n. refl; bytes = refl; dropped = λ n. refl });
  }

  at_end : state_at_end m (funcs_named m names) ≡ Some over.end
  at_end = ap (λ n. state_of (evaluated m (take n (funcs_named m names)))) (sym over.count) ∙ ap state_of over.quiet

  pub tree_is : (kept : List Text) → snapshot m (state_in m k) first kept ≡ evaluated_tree m names kept
  tree_is kept =
      ap (λ s. snapshot m s first kept) over.state ∙ (turns_aside m over.end k.turns first kept
      ∙ (ap (λ o. tree_in m first kept o) (sym at_end) ∙ ap (λ n. tree_in m (take n names) kept (state_at_end m (funcs_named m names))) over.count))

  pub some_evaluation : (kept : List Text) (e : Evaluation) (ready : stopped_by m [] ≡ None) → over_limit (snapshot m (state_in m k) first kept) ≡ None → e.«module» ≡ snapshot m (state_in m k) first kept → e.count ≡ calls.count →
      e.ending ≡ ended None calls.stopped → IsEvaluation m names kept e
  some_evaluation kept e ready within tree count ending = record {
    none = ap (λ o. option_or (option_map NoSuchExport o) (option_map TooMany (over_limit (evaluated_tree m names kept)))) there ∙ ap (option_map TooMany) (ap over_limit (sym (tree_is kept)) ∙ within);
    tree = tree ∙ tree_is kept;
    few = let few = few_called in omega (arith, few, count);
    count = count ∙ over.count;
    ending = ending ∙ (ap (ended None) over.stopped ∙ ap (λ o. ended o (stopped_by m (funcs_named m names))) (sym ready));
  }

  pub some_fault : (kept : List Text) (f : EvalFault) → option_map TooMany (over_limit (snapshot m (state_in m k) first kept)) ≡ Some f → fault_of m names kept ≡ Some f
  some_fault kept f e =
      ap (λ o. option_or (option_map NoSuchExport o) (option_map TooMany (over_limit (evaluated_tree m names kept)))) there ∙ (ap (λ t. option_map TooMany (over_limit t)) (sym (tree_is kept)) ∙ e)

-- An evaluation of no constructor is stopped by nothing if the instantiation and the start are not.
none_stops : (m : Module) (t : Stage) (s : State) → t ≡ Finished s → stop_of (called_in_order m t []) ≡ None
none_stops m t s e = ap (λ u. stop_of (called_in_order m u [])) e

pub ready_unstopped : (m : Module) (k : Kept) → IsReady m k → stopped_by m [] ≡ None
ready_unstopped m k ready = none_stops m (booted m MOST_TURNS) (state_in m k) ready.ends

-- ---- something stops the instantiation or the start ----

module _ (m : Module) (x : Stop) where
  none_called : (t : Stage) (funcs : List ℕ) → stop_of t ≡ Some x → calls_finished m t funcs ≡ 0
  none_called (Stopped y left) [] e = refl
  none_called (Stopped y left) (f ∷ fs) e = refl
  none_called (Going s es) funcs e = absurd (cc)
  none_called (Finished s) funcs e = absurd (cc)

  no_state : (t : Stage) → stop_of t ≡ Some x → state_of (called_in_order m t []) ≡ None
  no_state (Stopped y left) e = refl
  no_state (Going s es) e = absurd (cc)
  no_state (Finished s) e = absurd (cc)

  stop_stays : (t : Stage) → stop_of t ≡ Some x → stop_of (called_in_order m t []) ≡ Some x
  stop_stays (Stopped y left) e = e
  stop_stays (Going s es) e = absurd (cc)
  stop_stays (Finished s) e = absurd (cc)

  module _ (stops : StopsBoot m x) (names kept : List Text) where
    none_evaluated : evaluated_count m names ≡ 0
    none_evaluated = none_called (booted m MOST_TURNS) (funcs_named m names) stops

    pub same_tree : evaluated_tree m names kept ≡ m
    same_tree =
        ap (λ o. tree_in m (take (evaluated_count m names) names) kept o)
        (ap (λ n. state_of (evaluated m (take n (funcs_named m names)))) none_evaluated ∙ no_state (booted m MOST_TURNS) stops)

    pub stopped_at_once : first_missing m names ≡ None → over_limit m ≡ None → (e : Evaluation) → e ≡ record { «module» = m; count = 0; ending = Instantiation x } → IsEvaluation m names kept e
    stopped_at_once there within e is = subst (λ (y : Evaluation). IsEvaluation m names kept y) (sym is) (record {
      none = ap (λ o. option_or (option_map NoSuchExport o) (option_map TooMany (over_limit (evaluated_tree m names kept)))) there ∙ ap (option_map TooMany) (ap over_limit same_tree ∙ within);
      tree = sym same_tree;
      few = omega arith;
      count = sym none_evaluated;
      ending = sym (ap (λ o. ended o (stopped_by m (funcs_named m names))) (stop_stays (booted m MOST_TURNS) stops));
    })

    pub too_much_at_once : first_missing m names ≡ None → (which : Which) → over_limit m ≡ Some which → fault_of m names kept ≡ Some (TooMany which)
    too_much_at_once there which e =
        ap (λ o. option_or (option_map NoSuchExport o) (option_map TooMany (over_limit (evaluated_tree m names kept)))) there ∙ ap (option_map TooMany) (ap over_limit same_tree ∙ e)
