-- The decision of a split exists, and is one.
use Rattle.base_lists.proofs.Common.{◌↔◌, ◌≡◌, ◌∙◌, refl, sym, ap, ℕ, List, [], ◌∷◌, length, Option, Some, None, option_map, arith, option_or}
use Rattle.wasm_bytes.specs.Prelude.{IsBytes}
use Rattle.wasm_tree_spec.specs.Prelude.{Which, Module}
use Rattle.wasm_names.specs.declared.func_name.FuncName.{FuncName}
use Rattle.wasm_names.specs.NameList.{AreFunctionNames}
use Rattle.wasm_names.specs.Reading.{name_list}
use Rattle.split_plan.specs.declared.fault.PlanFault.{PlanFault}
use Rattle.split_plan.specs.Causes.{FaultsHaveCauses}
use Rattle.split_spec.specs.declared.faults.SplitFault.{SplitFault}
use Rattle.split_spec.specs.Prelude.{namespace_taken, prefix_taken, too_many, split_fault}
use Rattle.tools_cli_spec.specs.Prelude.{Text, SplitTask, Split, Decision, Refuses, Makes, Decides, words_plan, Splits, no_plan, not_parted, parted, kept_lines}
use Rattle.tools_cli_spec.specs.Job.{words_fault, GivesPlan, both_modules}
use Rattle.tools_cli_spec.specs.Texts.{plan_text, split_text}
use Rattle.split_plan.specs.declared.fault.PlanFault.TheVariants as plan
use Rattle.split_spec.specs.declared.faults.SplitFault.TheVariants as fault

-- ---- it decides something ----

-- The names of the functions of a file are those that are read from it.
abbrev pub NamesAreRead : Type 0
NamesAreRead = (bytes : List ℕ) (names : List FuncName) → IsBytes bytes → AreFunctionNames bytes names ↔ (names ≡ name_list bytes)

abbrev SomeText : Option Text → Type 0
SomeText o = (says : Text) × (o ≡ Some says)

plan_told : (e : PlanFault) → (e ≡ plan.NoMemory → ⊥) → SomeText (plan_text e)
plan_told (plan.NoSuchFunction name) never = (_, refl)
plan_told (plan.AmbiguousFunction name) never = (_, refl)
plan_told (plan.KeptAndSplit name) never = (_, refl)
plan_told plan.NoMemory never = absurd (never refl)

split_told : (file : Text) (e : SplitFault) → (e ≡ fault.NoMemory → ⊥) → SomeText (split_text file e)
split_told file (fault.NamespaceTaken import) never = (_, refl)
split_told file (fault.PrefixTaken name) never = (_, refl)
split_told file (fault.TooMany which) never = (_, refl)
split_told file fault.NoMemory never = absurd (never refl)

plan_never : FaultsHaveCauses → (split : SplitTask) (tree : Module) (names : List FuncName) → words_fault split tree names ≡ Some plan.NoMemory → ⊥
plan_never causes split tree names e = (causes tree names split.words.split split.words.keep plan.NoMemory).0 e

split_never : (import : Option ℕ) (name : Option Text) (which : Option Which) → option_or (option_map fault.NamespaceTaken import) (option_or (option_map fault.PrefixTaken name) (option_map fault.TooMany which)) ≡ Some fault.NoMemory → ⊥
split_never (Some import) name which e = cc
split_never None (Some name) which e = cc
split_never None None (Some which) e = cc
split_never None None None e = cc

abbrev pub SomeSplits : SplitTask → Module → Text → Type 0
SomeSplits split tree bytes = (decision : Decision) × Splits split tree bytes decision

parts_told : (split : SplitTask) (tree : Module) (bytes : Text) (names : List FuncName) → GivesPlan split bytes tree names → (o : Option SplitFault) → split_fault split.names tree (words_plan split tree names).moved ≡ o → SomeSplits split tree bytes
parts_told split tree bytes names given None e = (_, parted names given e)
parts_told split tree bytes names given (Some found) e =
    let m = (words_plan split tree names).moved in
    let never = split_never (namespace_taken split.names.placeholder_namespace tree) (prefix_taken split.names.export_prefix tree m) (too_many split.names tree m) in
    let told = split_told split.file found (λ none. never (e ∙ ap Some none)) in
    (_, not_parted names found told.0 given e told.1)

words_told : FaultsHaveCauses → (split : SplitTask) (tree : Module) (bytes : Text) (names : List FuncName) → AreFunctionNames bytes names → (o : Option PlanFault) → words_fault split tree names ≡ o → SomeSplits split tree bytes
words_told causes split tree bytes names named None e = parts_told split tree bytes names (record { named = named; planned = e }) _ refl
words_told causes split tree bytes names named (Some found) e =
    let told = plan_told found (λ none. plan_never causes split tree names (e ∙ ap Some none)) in
    (_, no_plan names found told.0 named e told.1)

some_splits : NamesAreRead → FaultsHaveCauses → (split : SplitTask) (tree : Module) (bytes : Text) → IsBytes bytes → SomeSplits split tree bytes
some_splits read causes split tree bytes are = words_told causes split tree bytes (name_list bytes) ((read bytes (name_list bytes) are).1 refl) _ refl

pub split_decides : NamesAreRead → FaultsHaveCauses → (split : SplitTask) (trees : List Module) (contents : List Text) → ((bytes : Text) (more : List Text) → contents ≡ bytes ∷ more → IsBytes bytes) → length trees ≡ 1 → length contents ≡ 1
    → (decision : Decision) × Decides (Split split) trees contents decision
split_decides read causes split [] contents are one all = absurd (omega arith)
split_decides read causes split (tree ∷ []) [] are one all = absurd (omega arith)
split_decides read causes split (tree ∷ []) (bytes ∷ []) are one all = some_splits read causes split tree bytes (are bytes [] refl)
split_decides read causes split (tree ∷ []) (bytes ∷ other ∷ more) are one all = absurd (omega arith)
split_decides read causes split (tree ∷ other ∷ trees) contents are one all = absurd (omega arith)

-- ---- and it is one ----

one_says : (o p : Option Text) (says other : Text) → o ≡ p → o ≡ Some says → p ≡ Some other → says ≡ other
one_says o p says other same e f = let both : Some says ≡ Some other = sym e ∙ same ∙ f in cc

some_or_none : {A B : Type 0} (o : Option A) (a : A) → o ≡ Some a → o ≡ None → B
some_or_none o a e f = absurd (let both : Some a ≡ None = sym e ∙ f in cc)

one_fault : {A : Type 0} (o : Option A) (a b : A) → o ≡ Some a → o ≡ Some b → a ≡ b
one_fault o a b e f = let both : Some a ≡ Some b = sym e ∙ f in cc

names_once : NamesAreRead → (bytes : Text) → IsBytes bytes → (a b : List FuncName) → AreFunctionNames bytes a → AreFunctionNames bytes b → a ≡ b
names_once read bytes are a b h k = (read bytes a are).0 h ∙ sym ((read bytes b are).0 k)

module _ (split : SplitTask) (tree : Module) where
  abbrev fault_by : List FuncName → Option SplitFault
  fault_by names = split_fault split.names tree (words_plan split tree names).moved

  words_once : (ns ms : List FuncName) (e : PlanFault) → ns ≡ ms → words_fault split tree ns ≡ Some e → words_fault split tree ms ≡ Some e
  words_once ns ms e same found = ap (words_fault split tree) (sym same) ∙ found

  planned_once : (ns ms : List FuncName) → ns ≡ ms → words_fault split tree ns ≡ None → words_fault split tree ms ≡ None
  planned_once ns ms same none = ap (words_fault split tree) (sym same) ∙ none

pub splits_once : NamesAreRead → (split : SplitTask) (tree : Module) (bytes : Text) → IsBytes bytes → (this other : Decision) → Splits split tree bytes this → Splits split tree bytes other → this ≡ other
splits_once read split tree bytes are this other (no_plan ns e says named found told) (no_plan ms e' says' named' found' told') =
    let same = names_once read bytes are ns ms named named' in
    let faults = one_fault (words_fault split tree ms) e e' (words_once split tree ns ms e same found) found' in
    ap Refuses (one_says (plan_text e) (plan_text e') says says' (ap plan_text faults) told told')
splits_once read split tree bytes are this other (no_plan ns e says named found told) (not_parted ms e' says' given' found' told') =
    some_or_none (words_fault split tree ms) e (words_once split tree ns ms e (names_once read bytes are ns ms named given'.named) found) given'.planned
splits_once read split tree bytes are this other (no_plan ns e says named found told) (parted ms given' none') =
    some_or_none (words_fault split tree ms) e (words_once split tree ns ms e (names_once read bytes are ns ms named given'.named) found) given'.planned
splits_once read split tree bytes are this other (not_parted ns e says given found told) (no_plan ms e' says' named' found' told') =
    some_or_none (words_fault split tree ms) e' found' (planned_once split tree ns ms (names_once read bytes are ns ms given.named named') given.planned)
splits_once read split tree bytes are this other (not_parted ns e says given found told) (not_parted ms e' says' given' found' told') =
    let same = names_once read bytes are ns ms given.named given'.named in
    let faults = one_fault (fault_by split tree ms) e e' (ap (fault_by split tree) (sym same) ∙ found) found' in
    ap Refuses (one_says (split_text split.file e) (split_text split.file e') says says' (ap (split_text split.file) faults) told told')
splits_once read split tree bytes are this other (not_parted ns e says given found told) (parted ms given' none') =
    some_or_none (fault_by split tree ms) e (ap (fault_by split tree) (sym (names_once read bytes are ns ms given.named given'.named)) ∙ found) none'
splits_once read split tree bytes are this other (parted ns given none) (no_plan ms e' says' named' found' told') =
    some_or_none (words_fault split tree ms) e' found' (planned_once split tree ns ms (names_once read bytes are ns ms given.named named') given.planned)
splits_once read split tree bytes are this other (parted ns given none) (not_parted ms e' says' given' found' told') =
    some_or_none (fault_by split tree ms) e' found' (ap (fault_by split tree) (sym (names_once read bytes are ns ms given.named given'.named)) ∙ none)
splits_once read split tree bytes are this other (parted ns given none) (parted ms given' none') =
    ap (λ (names : List FuncName). Makes (both_modules split tree (words_plan split tree names).moved) (kept_lines tree names (words_plan split tree names).kept)) (names_once read bytes are ns ms given.named given'.named)

pub split_once : NamesAreRead → (split : SplitTask) (trees : List Module) (contents : List Text) → ((bytes : Text) (more : List Text) → contents ≡ bytes ∷ more → IsBytes bytes) → (this other : Decision)
    → Decides (Split split) trees contents this → Decides (Split split) trees contents other → this ≡ other
split_once read split [] contents are this other h k = absurd h
split_once read split (tree ∷ []) [] are this other h k = absurd h
split_once read split (tree ∷ []) (bytes ∷ []) are this other h k = splits_once read split tree bytes (are bytes [] refl) this other h k
split_once read split (tree ∷ []) (bytes ∷ text ∷ more) are this other h k = absurd h
split_once read split (tree ∷ another ∷ trees) contents are this other h k = absurd h
