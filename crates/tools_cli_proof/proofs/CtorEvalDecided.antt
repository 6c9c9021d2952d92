-- The decision of a ctor-eval exists, and is one.
use Rattle.base_lists.proofs.Common.{◌≡◌, ◌∙◌, refl, sym, ap, List, [], ◌∷◌, length, Option, Some, None, option_map, arith, option_or}
use Rattle.wasm_tree_spec.specs.Prelude.{Which, Module}
use Rattle.module_limits.specs.Counts.{over_limit}
use Rattle.eval_snapshot_spec.specs.Evaluated.{evaluated_tree, first_missing}
use Rattle.tools_cli_spec.specs.declared.evaluation.EvalFault.{EvalFault}
use Rattle.tools_cli_spec.specs.Endings.{fault_of}
use Rattle.tools_cli_spec.specs.Prelude.{Text, CtorEvalTask, CtorEval, Decision, Refuses, Decides, Evaluates, not_evaluated, evaluated}
use Rattle.tools_cli_spec.specs.Texts.{eval_text}
use Rattle.tools_cli_spec.specs.declared.evaluation.EvalFault.TheVariants as fault

-- ---- it decides something ----

no_want : (name : Option Text) (which : Option Which) → option_or (option_map fault.NoSuchExport name) (option_map fault.TooMany which) ≡ Some fault.NoMemory → ⊥
no_want (Some name) which e = cc
no_want None (Some which) e = cc
no_want None None e = cc

some_text : (e : EvalFault) → (e ≡ fault.NoMemory → ⊥) → (says : Text) × (eval_text e ≡ Some says)
some_text (fault.NoSuchExport name) never = (_, refl)
some_text (fault.TooMany which) never = (_, refl)
some_text fault.NoMemory never = absurd (never refl)

some_evaluates : (eval : CtorEvalTask) (tree : Module) (o : Option EvalFault) → fault_of tree eval.ctors eval.kept ≡ o → (decision : Decision) × Evaluates eval tree decision
some_evaluates eval tree None e = (_, evaluated e)
some_evaluates eval tree (Some found) e =
    let told = some_text found (λ none. no_want (first_missing tree eval.ctors) (over_limit (evaluated_tree tree eval.ctors eval.kept)) (e ∙ ap Some none)) in
    (_, not_evaluated found told.0 e told.1)

pub eval_decides : (eval : CtorEvalTask) (trees : List Module) (contents : List Text) → length trees ≡ 1 → length contents ≡ 1 → (decision : Decision) × Decides (CtorEval eval) trees contents decision
eval_decides eval [] contents one all = absurd (omega arith)
eval_decides eval (tree ∷ []) [] one all = absurd (omega arith)
eval_decides eval (tree ∷ []) (bytes ∷ []) one all = some_evaluates eval tree _ refl
eval_decides eval (tree ∷ []) (bytes ∷ other ∷ more) one all = absurd (omega arith)
eval_decides eval (tree ∷ other ∷ trees) contents one all = absurd (omega arith)

-- ---- and it is one ----

evaluates_once : (eval : CtorEvalTask) (tree : Module) (this other : Decision) → Evaluates eval tree this → Evaluates eval tree other → this ≡ other
evaluates_once eval tree this other (not_evaluated e says found told) (not_evaluated e' says' found' told') =
    let both : Some e ≡ Some e' = sym found ∙ found' in
    let same : e ≡ e' = cc in
    let texts : Some says ≡ Some says' = sym told ∙ (ap eval_text same ∙ told') in
    let one : says ≡ says' = cc in
    ap Refuses one
evaluates_once eval tree this other (not_evaluated e says found told) (evaluated none) = absurd (let both : Some e ≡ None = sym found ∙ none in cc)
evaluates_once eval tree this other (evaluated none) (not_evaluated e says found told) = absurd (let both : Some e ≡ None = sym found ∙ none in cc)
evaluates_once eval tree this other (evaluated none) (evaluated none') = refl

pub eval_once : (eval : CtorEvalTask) (trees : List Module) (contents : List Text) (this other : Decision) → Decides (CtorEval eval) trees contents this → Decides (CtorEval eval) trees contents other → this ≡ other
eval_once eval [] contents this other h k = absurd h
eval_once eval (tree ∷ []) [] this other h k = absurd h
eval_once eval (tree ∷ []) (bytes ∷ []) this other h k = evaluates_once eval tree this other h k
eval_once eval (tree ∷ []) (bytes ∷ text ∷ more) this other h k = absurd h
eval_once eval (tree ∷ another ∷ trees) contents this other h k = absurd h
