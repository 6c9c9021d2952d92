-- The decision of a ctor-eval, from its parts.
use Rattle.base_lists.proofs.Common.{◌≡◌, ◌∙◌, ◌⊎◌, inl, inr, refl, sym, ap, ap₂, subst, List, [], ◌∷◌, Some, None}
use Rattle.wasm_tree_spec.specs.Prelude.{Module}
use Rattle.tools_cli_spec.specs.declared.evaluation.EvalFault.{EvalFault}
use Rattle.tools_cli_eval.specs.declared.evaluation.Evaluation.{Evaluation}
use Rattle.tools_cli_eval.specs.Evaluations.{IsEvaluation}
use Rattle.tools_cli_spec.specs.Endings.{fault_of}
use Rattle.tools_cli_spec.specs.Prelude.{Text, CtorEvalTask, CtorEval, Decision, Refuses, Makes, Decides, Evaluates, not_evaluated, evaluated}
use Rattle.tools_cli_spec.specs.Texts.{eval_text}
use Rattle.tools_cli_spec.specs.EvaluationLines.{evaluation_lines, lines_after}
use Rattle.tools_cli_decide.specs.Causes.{EvalFails}
use Rattle.tools_cli_spec.specs.declared.evaluation.EvalFault.TheVariants as fault

pub eval_fails : (eval : CtorEvalTask) (tree : Module) (says : Text) (e : EvalFault) → (e ≡ fault.NoMemory) ⊎ (fault_of tree eval.ctors eval.kept ≡ Some e) → eval_text e ≡ Some says → EvalFails eval tree says
eval_fails eval tree says e (inr found) told = (e, found, told)
eval_fails eval tree says e (inl none) told = let no_text : None ≡ Some says = ap eval_text (sym none) ∙ told in absurd (cc)

pub eval_refused : (eval : CtorEvalTask) (tree : Module) (says : Text) → EvalFails eval tree says → Evaluates eval tree (Refuses says)
eval_refused eval tree says (e, found, told) = not_evaluated e says found told

pub evaluated_made : (eval : CtorEvalTask) (tree : Module) (e : Evaluation) (lines : Text) (decision : Decision) → IsEvaluation tree eval.ctors eval.kept e → lines ≡ lines_after eval.ctors e.count e.ending
    → decision ≡ Makes (record { name = eval.output; tree = e.«module»; custom = [] } ∷ []) lines → Evaluates eval tree decision
evaluated_made eval tree e lines decision is told made =
    let P : Decision → Type 0 = Evaluates eval tree in
    let lines_are : lines ≡ evaluation_lines tree eval.ctors = told ∙ ap₂ (lines_after eval.ctors) is.count is.ending in
    let all = made ∙ ap₂ (λ (t : Module) (l : Text). Makes (record { name = eval.output; tree = t; custom = [] } ∷ []) l) is.tree lines_are in
    subst P (sym all) (evaluated is.none)

abbrev pub IsOfOne : CtorEvalTask → List Module → List Text → Decision → Type 0
IsOfOne eval trees contents decision = (tree : Module) × (bytes : Text) × (trees ≡ tree ∷ []) × (contents ≡ bytes ∷ []) × Evaluates eval tree decision

pub of_one : (eval : CtorEvalTask) (trees : List Module) (contents : List Text) (decision : Decision) → Decides (CtorEval eval) trees contents decision → IsOfOne eval trees contents decision
of_one eval [] contents decision h = absurd h
of_one eval (tree ∷ []) [] decision h = absurd h
of_one eval (tree ∷ []) (bytes ∷ []) decision h = (tree, bytes, refl, refl, h)
of_one eval (tree ∷ []) (bytes ∷ other ∷ more) decision h = absurd h
of_one eval (tree ∷ other ∷ trees) contents decision h = absurd h
