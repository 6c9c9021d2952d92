-- The job of a task, from the inputs of the task.
use Rattle.tools_cli_spec.specs.CommandLine.{many_of}
use Rattle.base_lists.proofs.Common.{◌≡◌, ◌∙◌, sym, refl, ap, subst, Bool, true, false, cond, map, ℕ, zero, suc, ◌≤◌, List, [], ◌∷◌, ◌++◌, take, drop, length, arith, Contains, list_all}
use Rattle.std.proofs.Common.{length-append}
use Rattle.tools_cli_spec.specs.Prelude.{Text, MetadceTask, SplitTask, CtorEvalTask, SampleTask, Task, Merge, Metadce, Split, CtorEval, Sample, modules_of, texts_of, inputs_of, Job, Usage, Refused, Done, Output, Decision, Refuses, Makes, not_linked, not_joined, merged, SweepsByGraph}
use Rattle.tools_cli_spec.specs.Prelude.{no_graph, not_swept, swept_by_marks, Splits, no_plan, not_parted, parted, Evaluates, not_evaluated, evaluated, Samples, not_merged, sampled, Decides, is_within, spelled_output, job_of, AllLoad, OneFails, module_files, contents_of, InputsJob}
use Rattle.tools_cli_spec.specs.Prelude.{not_loaded, decided, NamedFile, written_names}
use Rattle.tools_cli_decide.specs.Prelude.{total, input_entry, input_entries, input_texts}
use Rattle.tools_cli.specs.Causes.{PrintsAsAllowed}
use Rattle.tools_cli_spec.specs.CommandLine.{outputs_of}
use Rattle.tools_cli_spec.specs.Job.{Missing}
use Rattle.base_lists.proofs.Common.{Option, Some, None, option_map, cons_option}
use Rattle.wasm_tree_spec.specs.Prelude.{Module}
use Rattle.tools_cli_decide.specs.declared.input.Input.{Input}
use Rattle.tools_cli.proofs.MetadceDecided.{of_one}
use Rattle.tools_cli.proofs.SplitDecided.{of_one as of_one_split}
use Rattle.tools_cli.proofs.CtorEvalDecided.{of_one as of_one_eval}

-- ---- the inputs, as modules and other texts ----

pub total_first : (n : ℕ) (es : List NamedFile) → total (take n es) ≤ total es
total_first zero es = omega arith
total_first (suc n) [] = omega arith
total_first (suc n) (e ∷ es) = let rest = total_first n es in omega arith

pub entries_first : (n : ℕ) (xs : List Input) → input_entries (take n xs) ≡ take n (input_entries xs)
entries_first zero xs = refl
entries_first (suc n) [] = refl
entries_first (suc n) (x ∷ xs) = ap (λ l. input_entry x ∷ l) (entries_first n xs)

pub input_contents : (xs : List Input) → input_texts xs ≡ contents_of (input_entries xs)
input_contents [] = refl
input_contents (x ∷ xs) = ap (λ (l : List Text). x.bytes.items ∷ l) (input_contents xs)

length_names : (xs : List Input) → length (map (λ (e : NamedFile). e.0) (input_entries xs)) ≡ length xs
length_names [] = refl
length_names (x ∷ xs) = ap suc (length_names xs)

-- A task that has all inputs has an input for each module.
pub modules_there : (t : Task) (xs : List Input) → map (λ (e : NamedFile). e.0) (input_entries xs) ≡ inputs_of t → length (modules_of t) ≤ length xs
modules_there t xs e =
    let all : length xs ≡ length (modules_of t ++ texts_of t) = sym (length_names xs) ∙ ap length e in
    let both = length-append (modules_of t) (texts_of t) in
    omega arith

-- A task that has all inputs has an input for each file.
pub inputs_there : (t : Task) (xs : List Input) → map (λ (e : NamedFile). e.0) (input_entries xs) ≡ inputs_of t → length xs ≡ length (inputs_of t)
inputs_there t xs e = sym (length_names xs) ∙ ap length e

-- No task allows modules with several memories.
no_several : (t : Task) → false ≡ many_of t
no_several (Merge merge) = refl
no_several (Metadce metadce) = refl
no_several (Split split) = refl
no_several (CtorEval eval) = refl
no_several (Sample sample) = refl

-- ---- the job ----

pub job_made : (t : Task) (inputs : List NamedFile) (n : ℕ) (files : List NamedFile) (trees : List Module) (contents : List Text) (decision : Decision) (job : Job) → n ≡ length (modules_of t) → files ≡ take n inputs → contents ≡ contents_of inputs
    → AllLoad false files trees → Decides t trees contents decision → job_of decision ≡ job → InputsJob t inputs job
job_made t inputs n files trees contents decision job count first all loads decides is =
    let P : List NamedFile → Type 0 = λ l. AllLoad false l trees in
    let Q : Bool → Type 0 = λ b. AllLoad b (module_files t inputs) trees in
    let R : List Text → Type 0 = λ l. Decides t trees l decision in
    subst (InputsJob t inputs) is (decided trees decision (subst Q (no_several t) (subst P (first ∙ ap (λ k. take k inputs) count) loads)) (subst R all decides))

pub job_not_loaded : (t : Task) (inputs : List NamedFile) (n : ℕ) (files : List NamedFile) → n ≡ length (modules_of t) → files ≡ take n inputs → (text : Text) → OneFails false files text → InputsJob t inputs (Refused text)
job_not_loaded t inputs n files count first text fails =
    let P : List NamedFile → Type 0 = λ l. OneFails false l text in
    let Q : Bool → Type 0 = λ b. OneFails b (module_files t inputs) text in
    not_loaded text (subst Q (no_several t) (subst P (first ∙ ap (λ k. take k inputs) count) fails))

-- ---- what a job writes and prints ----

-- The contents of the files that a task reads behind its modules.
abbrev pub text_contents : Task → List NamedFile → List Text
text_contents task files = contents_of (drop (length (modules_of task)) files)

-- Each of these names is that of a file that the task may write if it reads these other texts.
abbrev pub AreNamed : Task → List Text → List Text → Type 0
AreNamed t texts names = (name : Text) → Contains names name → Contains (outputs_of t texts) name

abbrev DecisionIsAllowed : Task → List Text → Decision → Type 0
DecisionIsAllowed t texts (Refuses text) = Unit {0}
DecisionIsAllowed t texts (Makes outputs lines) = AreNamed t texts (map (λ o. o.name) outputs) × PrintsAsAllowed t lines

abbrev pub JobIsAllowed : Task → List Text → Job → Type 0
JobIsAllowed t texts (Done writes lines) = AreNamed t texts (written_names writes) × PrintsAsAllowed t lines
JobIsAllowed t texts Usage = Unit {0}
JobIsAllowed t texts Missing = Unit {0}
JobIsAllowed t texts (Refused text) = Unit {0}

swept_allowed : (metadce : MetadceTask) (tree : Module) (text : Text) (texts : List Text) (decision : Decision) → SweepsByGraph metadce tree text decision → DecisionIsAllowed (Metadce metadce) texts decision
swept_allowed metadce tree text texts decision (no_graph fault says found told) = tt
swept_allowed metadce tree text texts decision (not_swept g marks fault says is found told) = tt
swept_allowed metadce tree text texts decision (swept_by_marks g marks left unused is found lists) = ((λ name h. h), λ e. absurd (cc))

split_allowed : (split : SplitTask) (tree : Module) (bytes : Text) (texts : List Text) (decision : Decision) → Splits split tree bytes decision → DecisionIsAllowed (Split split) texts decision
split_allowed split tree bytes texts decision (no_plan names fault says named found told) = tt
split_allowed split tree bytes texts decision (not_parted names fault says given found told) = tt
split_allowed split tree bytes texts decision (parted names given none) = ((λ name h. h), λ e. absurd (cc))

eval_allowed : (eval : CtorEvalTask) (tree : Module) (texts : List Text) (decision : Decision) → Evaluates eval tree decision → DecisionIsAllowed (CtorEval eval) texts decision
eval_allowed eval tree texts decision (not_evaluated fault says found told) = tt
eval_allowed eval tree texts decision (evaluated none) = ((λ name h. h), λ e. absurd (cc))

-- A name of the outputs of a sample is the name that it gives.
named_by : (o : Option Text) (tree : Module) (name : Text) → Contains (map (λ (x : Output). x.name) (cons_option (option_map (λ name. record { name = name; tree = tree; custom = [] }) o) [])) name → Contains (cons_option o []) name
named_by (Some given) tree name h = h
named_by None tree name h = h

sample_allowed : (sample : SampleTask) (texts : List Text) (decision : Decision) → Samples sample decision → DecisionIsAllowed (Sample sample) texts decision
sample_allowed sample texts decision (not_merged text h) = tt
sample_allowed sample texts decision (sampled tree is) = ((λ name h. named_by sample.output tree name h), λ e. absurd (cc))

-- A sample decides over no module and no file.
of_no_file : (sample : SampleTask) (trees : List Module) (contents : List Text) (decision : Decision) → Decides (Sample sample) trees contents decision → Samples sample decision
of_no_file sample [] [] decision h = h
of_no_file sample [] (text ∷ contents) decision h = absurd h
of_no_file sample (tree ∷ trees) contents decision h = absurd h

decision_allowed : (t : Task) (trees : List Module) (contents texts : List Text) (decision : Decision) → Decides t trees contents decision → DecisionIsAllowed t texts decision
decision_allowed (Merge merge) trees contents texts decision (not_linked fault text found says) = tt
decision_allowed (Merge merge) trees contents texts decision (not_joined fault text linked found says) = tt
decision_allowed (Merge merge) trees contents texts decision (merged tree is) = ((λ name h. h), λ e. refl)
decision_allowed (Metadce metadce) trees contents texts decision h = let one = of_one metadce trees contents decision h in swept_allowed metadce one.0 one.2 texts decision one.5
decision_allowed (Split split) trees contents texts decision h = let one = of_one_split split trees contents decision h in split_allowed split one.0 one.1 texts decision one.4
decision_allowed (CtorEval eval) trees contents texts decision h = let one = of_one_eval eval trees contents decision h in eval_allowed eval one.0 texts decision one.4
decision_allowed (Sample sample) trees contents texts decision h = sample_allowed sample texts decision (of_no_file sample trees contents decision h)

same_names : (outputs : List Output) → map (λ (o : Output). o.name) outputs ≡ written_names (map spelled_output outputs)
same_names [] = refl
same_names (o ∷ outputs) = ap (λ (l : List Text). o.name ∷ l) (same_names outputs)

within_allowed : (t : Task) (texts : List Text) (outputs : List Output) (lines text : Text) (b : Bool) → DecisionIsAllowed t texts (Makes outputs lines) → JobIsAllowed t texts (cond b (Done (map spelled_output outputs) lines) (Refused text))
within_allowed t texts outputs lines text true h = let P : List Text → Type 0 = AreNamed t texts in (subst P (same_names outputs) h.0, h.1)
within_allowed t texts outputs lines text false h = tt

job_allowed : (t : Task) (texts : List Text) (decision : Decision) → DecisionIsAllowed t texts decision → JobIsAllowed t texts (job_of decision)
job_allowed t texts (Refuses text) h = tt
job_allowed t texts (Makes outputs lines) h = within_allowed t texts outputs lines _ (list_all is_within outputs) h

pub inputs_job_allowed : (t : Task) (inputs : List NamedFile) (job : Job) → InputsJob t inputs job → JobIsAllowed t (text_contents t inputs) job
inputs_job_allowed t inputs job (not_loaded text h) = tt
inputs_job_allowed t inputs job (decided trees decision loads h) = job_allowed t (text_contents t inputs) decision (decision_allowed t trees (contents_of inputs) (text_contents t inputs) decision h)
