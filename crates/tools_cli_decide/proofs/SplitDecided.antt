-- The decision of a split, from its parts.
use Rattle.base_lists.proofs.Common.{◌≡◌, ◌∙◌, ◌⊎◌, inl, inr, sym, ap, ap₂, subst, ℕ, List, [], ◌∷◌, Some, None}
use Rattle.wasm_tree_spec.specs.Prelude.{Module}
use Rattle.wasm_names.specs.declared.func_name.FuncName.{FuncName}
use Rattle.wasm_names.specs.NameList.{AreFunctionNames}
use Rattle.split_plan.specs.declared.plans.Plan.{Plan}
use Rattle.split_plan.specs.declared.fault.PlanFault.{PlanFault}
use Rattle.split_spec.specs.declared.faults.SplitFault.{SplitFault}
use Rattle.split_spec.specs.Prelude.{split_fault, primary, secondary}
use Rattle.tools_cli_spec.specs.Prelude.{Text, SplitTask, Decision, Refuses, Makes, words_plan, Splits, no_plan, not_parted, parted, kept_lines}
use Rattle.tools_cli_spec.specs.Job.{words_fault, GivesPlan, both_modules}
use Rattle.tools_cli_spec.specs.Texts.{plan_text, split_text}
use Rattle.tools_cli_decide.specs.Causes.{PlanFails, SplitFails}
use Rattle.split_plan.specs.declared.fault.PlanFault.TheVariants as plan
use Rattle.split_spec.specs.declared.faults.SplitFault.TheVariants as fault

pub plan_fails : (split : SplitTask) (tree : Module) (names : List FuncName) (says : Text) (e : PlanFault) → (e ≡ plan.NoMemory) ⊎ (words_fault split tree names ≡ Some e) → plan_text e ≡ Some says → PlanFails split tree names says
plan_fails split tree names says e (inr found) told = (e, found, told)
plan_fails split tree names says e (inl none) told = let no_text : None ≡ Some says = ap plan_text (sym none) ∙ told in absurd (cc)

pub split_fails : (split : SplitTask) (tree : Module) (moved : List ℕ) (says : Text) (e : SplitFault) → (e ≡ fault.NoMemory) ⊎ (split_fault split.names tree moved ≡ Some e) → split_text split.file e ≡ Some says → SplitFails split tree moved says
split_fails split tree moved says e (inr found) told = (e, found, told)
split_fails split tree moved says e (inl none) told = let no_text : None ≡ Some says = ap (split_text split.file) (sym none) ∙ told in absurd (cc)

pub plan_refused : (split : SplitTask) (tree : Module) (bytes : Text) (names : List FuncName) → AreFunctionNames bytes names → (says : Text) → PlanFails split tree names says → Splits split tree bytes (Refuses says)
plan_refused split tree bytes names named says (e, found, told) = no_plan names e says named found told

pub split_refused : (split : SplitTask) (tree : Module) (bytes : Text) (names : List FuncName) (p : Plan) → GivesPlan split bytes tree names → p ≡ words_plan split tree names → (says : Text) → SplitFails split tree p.moved says → Splits split tree bytes (Refuses says)
split_refused split tree bytes names p given is says (e, found, told) = not_parted names e says given (ap (λ (q : Plan). split_fault split.names tree q.moved) (sym is) ∙ found) told

pub parted_made : (split : SplitTask) (tree : Module) (bytes : Text) (names : List FuncName) (p : Plan) (first second : Module) (lines : Text) (decision : Decision) → GivesPlan split bytes tree names → p ≡ words_plan split tree names
    → split_fault split.names tree p.moved ≡ None → first ≡ secondary split.names tree p.moved → second ≡ primary split.names tree p.moved → lines ≡ kept_lines tree names p.kept
    → decision ≡ Makes (record { name = split.outputs.secondary; tree = first; custom = [] } ∷ record { name = split.outputs.primary; tree = second; custom = [] } ∷ []) lines → Splits split tree bytes decision
parted_made split tree bytes names p first second lines decision given is none first_is second_is told made =
    let P : Decision → Type 0 = Splits split tree bytes in
    let both = ap₂ (λ (x y : Module). Makes (record { name = split.outputs.secondary; tree = x; custom = [] } ∷ record { name = split.outputs.primary; tree = y; custom = [] } ∷ []) lines) first_is second_is in
    let all = made ∙ both ∙ ap (Makes (both_modules split tree p.moved)) told ∙ ap (λ (q : Plan). Makes (both_modules split tree q.moved) (kept_lines tree names q.kept)) is in
    subst P (sym all) (parted names given (ap (λ (q : Plan). split_fault split.names tree q.moved) (sym is) ∙ none))
