-- The decision of a metadce exists, and is one.
use Rattle.base_lists.proofs.Common.{◌≡◌, ◌∙◌, refl, sym, ap, ap₂, subst, ℕ, List, [], ◌∷◌, length, Option, Some, None, Result, Ok, Err, arith, filter_map}
use Rattle.dce_graph.specs.Prelude.{AreExact, graph_result, if_text, misshapen, entry_of, first_repeated, first_unknown, names_of, place_of_name, reached_names}
use Rattle.wasm_tree_spec.specs.Prelude.{Which, Module}
use Rattle.dce_graph.specs.declared.graph.Graph.{Graph}
use Rattle.dce_graph.specs.declared.marks.Reached.{Reached}
use Rattle.dce_graph.specs.declared.fault.GraphFault.{GraphFault}
use Rattle.serde_json.specs.Data.{Data, Items}
use Rattle.serde_json.specs.Find.{as_array}
use Rattle.dce_graph.specs.Laws.{ExactMarksExist, ExactMarksAreOne}
use Rattle.dce_graph.specs.GraphFile.{GraphEntry, if_array, if_shaped, if_distinct, if_known, value_of, listed, graph_of}
use Rattle.dce_spec.specs.Reached.{marks_of}
use Rattle.dce_spec.specs.Swept.{swept}
use Rattle.dce_sweep.specs.declared.faults.SweepFault.{SweepFault}
use Rattle.dce_sweep.specs.Sweeps.{Sweeps, outcome, sweep_of}
use Rattle.module_limits.specs.Counts.{over_limit}
use Rattle.tools_cli_spec.specs.Prelude.{Text, MetadceTask, Metadce, Decision, Refuses, Makes, Decides, SweepsByGraph, no_graph, not_swept, swept_by_marks, unused_lines, unmarked_names}
use Rattle.tools_cli_spec.specs.Job.{GivesMarks}
use Rattle.tools_cli_spec.specs.Texts.{graph_text, sweep_text}
use Rattle.tools_cli_spec.specs.Unused.{AreUnused}
use Rattle.tools_cli_proof.proofs.UnusedNames.{unmarked_unused, unused_once}
use Rattle.dce_graph.specs.declared.fault.GraphFault.TheVariants as graph
use Rattle.dce_sweep.specs.declared.faults.SweepFault.TheVariants as sweep

-- ---- it decides something ----

known_never : (o : Option Text) (g : Graph) → if_known o g ≡ Err graph.NoMemory → ⊥
known_never (Some name) g e = cc
known_never None g e = cc

distinct_never : (o : Option Text) (entries : List GraphEntry) → if_distinct o entries ≡ Err graph.NoMemory → ⊥
distinct_never (Some name) entries e = cc
distinct_never None entries e = known_never (first_unknown (place_of_name (names_of entries)) (reached_names entries)) (graph_of entries) e

shaped_never : (o : Option ℕ) (entries : List GraphEntry) → if_shaped o entries ≡ Err graph.NoMemory → ⊥
shaped_never (Some n) entries e = cc
shaped_never None entries e = distinct_never (first_repeated (names_of entries)) entries e

array_never : (o : Option Items) → if_array o ≡ Err graph.NoMemory → ⊥
array_never None e = cc
array_never (Some items) e = shaped_never (misshapen (listed items)) (filter_map entry_of (listed items)) e

text_never : (o : Option Data) → if_text o ≡ Err graph.NoMemory → ⊥
text_never None e = cc
text_never (Some d) e = array_never (as_array d) e

abbrev SomeText : Option Text → Type 0
SomeText o = (says : Text) × (o ≡ Some says)

graph_told : (file : Text) (fault : GraphFault) → (fault ≡ graph.NoMemory → ⊥) → SomeText (graph_text file fault)
graph_told file graph.GraphText never = (_, refl)
graph_told file (graph.GraphShape entry) never = (_, refl)
graph_told file (graph.NodeTwice name) never = (_, refl)
graph_told file (graph.UnknownNode name) never = (_, refl)
graph_told file graph.NoMemory never = absurd (never refl)

outcome_never : (which : Option Which) (m : Module) → outcome which m ≡ Err sweep.NoMemory → ⊥
outcome_never (Some which) m e = cc
outcome_never None m e = cc

abbrev pub SomeReduces : MetadceTask → Module → Text → Type 0
SomeReduces metadce tree text = (decision : Decision) × SweepsByGraph metadce tree text decision

sweep_told : (metadce : MetadceTask) (tree : Module) (text : Text) (g : Graph) (marks : Reached) → GivesMarks text tree g marks → (r : Result Module SweepFault) → sweep_of (marks_of marks) tree ≡ r → SomeReduces metadce tree text
sweep_told metadce tree text g marks is (Ok left) e = (_, swept_by_marks g marks left (unmarked_names g.nodes marks.nodes) is e (unmarked_unused g tree marks is.exact))
sweep_told metadce tree text g marks is (Err (sweep.TooMany which)) e = (_, not_swept g marks (sweep.TooMany which) _ is e refl)
sweep_told metadce tree text g marks is (Err sweep.NoMemory) e = absurd (outcome_never (over_limit (swept (marks_of marks) tree)) (swept (marks_of marks) tree) e)

graph_reduces : ExactMarksExist → (metadce : MetadceTask) (tree : Module) (text : Text) (r : Result Graph GraphFault) → graph_result text ≡ r → SomeReduces metadce tree text
graph_reduces exist metadce tree text (Err fault) e =
    let told = graph_told metadce.graph_file fault (λ none. text_never (value_of text) (e ∙ ap Err none)) in
    (_, no_graph fault told.0 e told.1)
graph_reduces exist metadce tree text (Ok g) e =
    let marks = exist g tree in
    sweep_told metadce tree text g marks.0 (record { read = e; exact = marks.1 }) (sweep_of (marks_of marks.0) tree) refl

pub some_reduces : ExactMarksExist → (metadce : MetadceTask) (tree : Module) (text : Text) → SomeReduces metadce tree text
some_reduces exist metadce tree text = graph_reduces exist metadce tree text (graph_result text) refl

pub metadce_told : ExactMarksExist → (metadce : MetadceTask) (trees : List Module) (contents : List Text) → length trees ≡ 1 → length contents ≡ 2 → (decision : Decision) × Decides (Metadce metadce) trees contents decision
metadce_told exist metadce [] contents one two = absurd (omega arith)
metadce_told exist metadce (tree ∷ []) [] one two = absurd (omega arith)
metadce_told exist metadce (tree ∷ []) (bytes ∷ []) one two = absurd (omega arith)
metadce_told exist metadce (tree ∷ []) (bytes ∷ text ∷ []) one two = some_reduces exist metadce tree text
metadce_told exist metadce (tree ∷ []) (bytes ∷ text ∷ other ∷ more) one two = absurd (omega arith)
metadce_told exist metadce (tree ∷ other ∷ trees) contents one two = absurd (omega arith)

-- ---- and it is one ----

one_graph : (text : Text) (g h : Graph) → graph_result text ≡ Ok g → graph_result text ≡ Ok h → g ≡ h
one_graph text g h e f = let both : ◌≡◌ {A = Result Graph GraphFault} (Ok g) (Ok h) = sym e ∙ f in cc

no_other : {A : Type 0} (text : Text) (g : Graph) (fault : GraphFault) → graph_result text ≡ Ok g → graph_result text ≡ Err fault → A
no_other text g fault e f = absurd (let both : ◌≡◌ {A = Result Graph GraphFault} (Ok g) (Err fault) = sym e ∙ f in cc)

one_text : (o : Option Text) (says other : Text) → o ≡ Some says → o ≡ Some other → says ≡ other
one_text o says other e f = let both : Some says ≡ Some other = sym e ∙ f in cc

-- All exact marks of one graph and module give the same sweep.
one_sweep : ExactMarksAreOne → (text : Text) (tree : Module) (g h : Graph) (marks others : Reached) (r q : Result Module SweepFault) → GivesMarks text tree g marks → GivesMarks text tree h others → Sweeps (marks_of marks) tree r → Sweeps (marks_of others) tree q → r ≡ q
one_sweep one text tree g h marks others r q is be e f =
    let same = one_graph text g h is.read be.read in
    let P : Graph → Type 0 = λ x. AreExact x tree marks in
    sym e ∙ ap (λ (k : Reached). sweep_of (marks_of k) tree) (one h tree marks others (subst P same is.exact) be.exact) ∙ f

pub sweeps_once : ExactMarksAreOne → (metadce : MetadceTask) (tree : Module) (text : Text) (this other : Decision) → SweepsByGraph metadce tree text this → SweepsByGraph metadce tree text other → this ≡ other
sweeps_once one metadce tree text this other (no_graph fault says found told) (no_graph fault' says' found' told') =
    let both : ◌≡◌ {A = Result Graph GraphFault} (Err fault) (Err fault') = sym found ∙ found' in
    let same : fault ≡ fault' = cc in
    ap Refuses (one_text (graph_text metadce.graph_file fault) says says' told (ap (graph_text metadce.graph_file) same ∙ told'))
sweeps_once one metadce tree text this other (no_graph fault says found told) (not_swept g marks fault' says' is found' told') = no_other text g fault is.read found
sweeps_once one metadce tree text this other (no_graph fault says found told) (swept_by_marks g marks left unused is found' lists) = no_other text g fault is.read found
sweeps_once one metadce tree text this other (not_swept g marks fault says is found told) (no_graph fault' says' found' told') = no_other text g fault' is.read found'
sweeps_once one metadce tree text this other (not_swept g marks fault says is found told) (not_swept h others fault' says' be found' told') =
    let both : ◌≡◌ {A = Result Module SweepFault} (Err fault) (Err fault') = one_sweep one text tree g h marks others (Err fault) (Err fault') is be found found' in
    let same : fault ≡ fault' = cc in
    ap Refuses (one_text (sweep_text fault) says says' told (ap sweep_text same ∙ told'))
sweeps_once one metadce tree text this other (not_swept g marks fault says is found told) (swept_by_marks h others left unused be found' lists) =
    absurd (let both : ◌≡◌ {A = Result Module SweepFault} (Err fault) (Ok left) = one_sweep one text tree g h marks others (Err fault) (Ok left) is be found found' in cc)
sweeps_once one metadce tree text this other (swept_by_marks g marks left unused is found lists) (no_graph fault' says' found' told') = no_other text g fault' is.read found'
sweeps_once one metadce tree text this other (swept_by_marks g marks left unused is found lists) (not_swept h others fault' says' be found' told') =
    absurd (let both : ◌≡◌ {A = Result Module SweepFault} (Ok left) (Err fault') = one_sweep one text tree g h marks others (Ok left) (Err fault') is be found found' in cc)
sweeps_once one metadce tree text this other (swept_by_marks g marks left unused is found lists) (swept_by_marks h others left' unused' be found' lists') =
    let both : ◌≡◌ {A = Result Module SweepFault} (Ok left) (Ok left') = one_sweep one text tree g h marks others (Ok left) (Ok left') is be found found' in
    let same : left ≡ left' = cc in
    let P : Graph → Type 0 = λ x. AreUnused x tree unused in
    let names : unused ≡ unused' = unused_once h tree unused unused' (subst P (one_graph text g h is.read be.read) lists) lists' in
    ap₂ (λ (t : Module) (ns : List Text). Makes (record { name = metadce.output; tree = t; custom = [] } ∷ []) (unused_lines ns)) same names

pub metadce_once : ExactMarksAreOne → (metadce : MetadceTask) (trees : List Module) (contents : List Text) (this other : Decision) → Decides (Metadce metadce) trees contents this → Decides (Metadce metadce) trees contents other → this ≡ other
metadce_once one metadce [] contents this other h k = absurd h
metadce_once one metadce (tree ∷ []) [] this other h k = absurd h
metadce_once one metadce (tree ∷ []) (bytes ∷ []) this other h k = absurd h
metadce_once one metadce (tree ∷ []) (bytes ∷ text ∷ []) this other h k = sweeps_once one metadce tree text this other h k
metadce_once one metadce (tree ∷ []) (bytes ∷ text ∷ more ∷ others) this other h k = absurd h
metadce_once one metadce (tree ∷ more ∷ trees) contents this other h k = absurd h
