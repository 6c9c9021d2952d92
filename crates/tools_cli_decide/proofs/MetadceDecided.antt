-- The decision of a metadce, from its parts.
use Rattle.base_lists.proofs.Common.{◌↔◌, IfOk, true, ◌≡◌, ◌∙◌, ◌⊎◌, inl, inr, sym, ap, subst, List, [], ◌∷◌, length, get_or, Some, None, Result, Ok, Err, arith}
use Rattle.dce_graph.specs.declared.point.Point.{Point}
use Rattle.dce_graph.specs.Prelude.{AreExact, flags, marked, IsReached, point_count, graph_result, fault_of}
use Rattle.wasm_tree_spec.specs.Prelude.{Module}
use Rattle.dce_graph.specs.declared.graph.Graph.{Graph}
use Rattle.dce_graph.specs.declared.marks.Reached.{Reached}
use Rattle.dce_graph.specs.declared.fault.GraphFault.{GraphFault}
use Rattle.dce_graph.specs.GraphFile.{IsFault}
use Rattle.dce_spec.specs.Marks.{Marks}
use Rattle.dce_spec.specs.Reached.{marks_of}
use Rattle.dce_sweep.specs.declared.faults.SweepFault.{SweepFault}
use Rattle.dce_sweep.specs.Sweeps.{Sweeps}
use Rattle.wasm_valid.specs.Prelude.{IsValid}
use Rattle.dce_spec.specs.Closed.{AreClosed}
use Rattle.dce_proof.specs.ReachedMarks.{ReachedMarksAreClosed}
use Rattle.tools_cli_spec.specs.Prelude.{Text, MetadceTask, Decision, Refuses, Makes, SweepsByGraph, no_graph, not_swept, swept_by_marks, unused_lines, unmarked_names}
use Rattle.tools_cli_decide.specs.Prelude.{input_texts}
use Rattle.tools_cli_spec.specs.Texts.{graph_text, sweep_text}
use Rattle.tools_cli_decide.specs.Causes.{GraphFails, SweepFails}
use Rattle.tools_cli_decide.specs.declared.input.Input.{Input}
use Rattle.tools_cli_proof.proofs.UnusedNames.{unmarked_unused}
use Rattle.dce_graph.specs.declared.fault.GraphFault.TheVariants as graph
use Rattle.dce_sweep.specs.declared.faults.SweepFault.TheVariants as sweep

fault_is : (r : Result Graph GraphFault) (fault : GraphFault) → fault_of r ≡ Some fault → r ≡ Err fault
fault_is (Ok g) fault e = absurd (cc)
fault_is (Err other) fault e = let same : other ≡ fault = cc in ap Err same

pub graph_fails : (file text says : Text) (fault : GraphFault) → IsFault fault (fault_of (graph_result text)) → graph_text file fault ≡ Some says → GraphFails file text says
graph_fails file text says graph.NoMemory h e = absurd (cc)
graph_fails file text says graph.GraphText h e = (graph.GraphText, fault_is (graph_result text) graph.GraphText h, e)
graph_fails file text says (graph.GraphShape entry) h e = (graph.GraphShape entry, fault_is (graph_result text) (graph.GraphShape entry) h, e)
graph_fails file text says (graph.NodeTwice name) h e = (graph.NodeTwice name, fault_is (graph_result text) (graph.NodeTwice name) h, e)
graph_fails file text says (graph.UnknownNode name) h e = (graph.UnknownNode name, fault_is (graph_result text) (graph.UnknownNode name) h, e)

-- Marks are exact if they are set exactly where a path leads and there is one for each point.
pub exact_marks : {E : Type 0} (r : Result Reached E) (g : Graph) (m : Module) → IfOk r (λ marks. (p : Point) → (marked marks p ≡ true) ↔ IsReached g m p) → IfOk r (λ marks. (p : Point) → length (flags marks p) ≡ point_count g m p) → IfOk r (AreExact g m)
exact_marks (Ok marks) g m exactly one_each = record { exactly = exactly; one_each = one_each }
exact_marks (Err x) g m exactly one_each = tt

pub closed_marks : {E : Type 0} (r : Result Reached E) (g : Graph) (m : Module) → ReachedMarksAreClosed → IsValid m → IfOk r (AreExact g m) → IfOk r (λ marks. AreClosed (marks_of marks) m)
closed_marks (Ok marks) g m law valid exact = law g m marks valid exact
closed_marks (Err x) g m law valid exact = tt

pub sweep_fails : (marks : Marks) (tree : Module) (says : Text) (fault : SweepFault) → (fault ≡ sweep.NoMemory) ⊎ Sweeps marks tree (Err fault) → sweep_text fault ≡ Some says → SweepFails marks tree says
sweep_fails marks tree says fault (inr h) e = (fault, h, e)
sweep_fails marks tree says fault (inl none) e = let no_text : None ≡ Some says = ap sweep_text (sym none) ∙ e in absurd (cc)

pub graph_refused : (metadce : MetadceTask) (tree : Module) (text says : Text) → GraphFails metadce.graph_file text says → SweepsByGraph metadce tree text (Refuses says)
graph_refused metadce tree text says (fault, found, told) = no_graph fault says found told

pub sweep_refused : (metadce : MetadceTask) (tree : Module) (text : Text) (g : Graph) (marks : Reached) → graph_result text ≡ Ok g → AreExact g tree marks → (says : Text) → SweepFails (marks_of marks) tree says → SweepsByGraph metadce tree text (Refuses says)
sweep_refused metadce tree text g marks read exact says (fault, found, told) = not_swept g marks fault says (record { read = read; exact = exact }) found told

pub reduced_made : (metadce : MetadceTask) (tree left : Module) (text lines : Text) (g : Graph) (marks : Reached) (decision : Decision) → graph_result text ≡ Ok g → AreExact g tree marks → Sweeps (marks_of marks) tree (Ok left)
    → lines ≡ unused_lines (unmarked_names g.nodes marks.nodes) → decision ≡ Makes (record { name = metadce.output; tree = left; custom = [] } ∷ []) lines → SweepsByGraph metadce tree text decision
reduced_made metadce tree left text lines g marks decision read exact left_is told made =
    let P : Decision → Type 0 = SweepsByGraph metadce tree text in
    subst P (sym (made ∙ ap (Makes (record { name = metadce.output; tree = left; custom = [] } ∷ [])) told))
    (swept_by_marks g marks left (unmarked_names g.nodes marks.nodes) (record { read = read; exact = exact }) left_is (unmarked_unused g tree marks exact))

pub decoding_is_unique : (trees rest : List Module) (tree : Module) → length trees ≡ 1 → trees ≡ tree ∷ rest → trees ≡ tree ∷ []
decoding_is_unique trees [] tree one e = e
decoding_is_unique trees (other ∷ rest) tree one e = absurd (let long = ap length e in omega arith)

pub two_texts : (inputs : List Input) (x : Input) → length inputs ≡ 2 → x ≡ get_or inputs 1 x → (bytes : Text) × (input_texts inputs ≡ bytes ∷ x.bytes.items ∷ [])
two_texts [] x two is = absurd (omega arith)
two_texts (a ∷ []) x two is = absurd (omega arith)
two_texts (a ∷ b ∷ []) x two is = (a.bytes.items, ap (λ (i : Input). a.bytes.items ∷ i.bytes.items ∷ []) (sym is))
two_texts (a ∷ b ∷ c ∷ more) x two is = absurd (omega arith)
