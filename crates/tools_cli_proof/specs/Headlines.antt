-- The headline of each command, written out: what a command that is done has written, and what an
-- embedder sees of it.
use Rattle.std.specs.Prelude.{false, ◌≡◌, ℕ, ◌+◌, ◌*◌, List, [], ◌∷◌, length, Some, None, Ok, take, slice_get, IsTrue, codes}
use Rattle.std.specs.FinMap.{get}
use Rattle.tool_io.specs.FilesAndSinks.{FileContents}
use Rattle.wasm_tree_spec.specs.Prelude.{Module}
use Rattle.wasm_read_spec.specs.Prelude.{Spells}
use Rattle.wasm_valid.specs.Prelude.{IsValid, IsSingle}
use Rattle.wasm_meaning.specs.Prelude.{Part, Environment, is_environment, alone, links, Move, IsPrefix, events, events_loaded}
use Rattle.merge_names.specs.declared.mode.Mode.TheVariants.{Refuse}
use Rattle.merge_spec.specs.Prelude.{joined_module, linked_world}
use Rattle.merge_proof.specs.SequentialEquivalence.{SequentialInstantiationEquivalent}
use Rattle.wasm_gen.specs.Modules.{first_module, second_module}
use Rattle.dce_graph.specs.declared.graph.Graph.{Graph}
use Rattle.dce_graph.specs.declared.marks.Reached.{Reached}
use Rattle.dce_graph.specs.Prelude.{AreExact, graph_result}
use Rattle.dce_spec.specs.Reached.{marks_of}
use Rattle.dce_spec.specs.Swept.{swept}
use Rattle.dce_spec.specs.Unswept.{unswept}
use Rattle.wasm_names.specs.declared.func_name.FuncName.{FuncName}
use Rattle.wasm_names.specs.NameList.{AreFunctionNames}
use Rattle.split_plan.specs.PlannedMoves.{plan_of}
use Rattle.split_spec.specs.Prelude.{primary, secondary}
use Rattle.split_proof.specs.SplitLaws.{AlwaysLoads, most_params}
use Rattle.split_proof.specs.SplitWorlds.{pair_in_place}
use Rattle.eval_snapshot_spec.specs.Evaluated.{evaluated_count, evaluated_tree, first_missing}
use Rattle.eval_snapshot_proof.specs.EvaluatedWorlds.{events_evaluated}
use Rattle.tools_cli_spec.specs.CommandLine.{Text, Source, MergeTask, MetadceTask, SplitTask, CtorEvalTask, SampleTask}
use Rattle.tools_cli_spec.specs.Job.{parts_of}
use Rattle.tools_cli_spec.specs.Trees.{EvaluatedAsByTheMachine}

-- The file holds an encoding of the module.
pub record HasRead (files : FileContents) (name : Text) (tree : Module) : Type 0 where
  pub bytes : Text
  pub there : get files name ≡ Some bytes
  pub spells : Spells bytes tree false

-- The file holds an encoding of the module, which is valid and has at most one memory.
pub record HasWritten (files : FileContents) (name : Text) (tree : Module) : Type 0 where
  pub bytes : Text
  pub there : get files name ≡ Some bytes
  pub spells : Spells bytes tree false
  pub valid : IsValid tree
  pub single : IsSingle tree

-- merge: the output is the joined module of the parts that were read. In every environment each of
-- the two has the trace of n steps of the other within n + 4 steps; and sequential instantiation of
-- the parts is equivalent to instantiation at once.
pub record MergeIsFaithful (merge : MergeTask) (before after : FileContents) : Type 0 where
  pub trees : List Module
  pub tree : Module
  pub as_many : length trees ≡ length merge.sources
  pub read : (place : ℕ) (source : Source) (part : Module) → slice_get merge.sources place ≡ Some source → slice_get trees place ≡ Some part → HasRead before source.file part
  pub written : HasWritten after merge.output tree
  pub joined : tree ≡ joined_module (parts_of merge.sources trees) merge.mode
  pub same : (env : Environment) → IsTrue (is_environment env) → (moves : List Move) (n : ℕ) →
      IsPrefix (events (linked_world (parts_of merge.sources trees) merge.mode) env moves n) (events (alone tree) env moves (n + 4))
      × IsPrefix (events (alone tree) env moves n) (events (linked_world (parts_of merge.sources trees) merge.mode) env moves (n + 4))
  pub sequential : SequentialInstantiationEquivalent (linked_world (parts_of merge.sources trees) merge.mode)

-- metadce: the output is the module without what is not marked, and the marks are on exactly what
-- is reached through the graph. Step by step the output has the trace of the module of which the
-- embedder sees only the exports that are kept, in each environment that links this.
pub record MetadceIsFaithful (metadce : MetadceTask) (before after : FileContents) : Type 0 where
  pub tree : Module
  pub text : Text
  pub graph : Graph
  pub marks : Reached
  pub left : Module
  pub read : HasRead before metadce.file tree
  pub graph_there : get before metadce.graph_file ≡ Some text
  pub graph_read : graph_result text ≡ Ok graph
  pub exact : AreExact graph tree marks
  pub written : HasWritten after metadce.output left
  pub reduced : left ≡ swept (marks_of marks) tree
  pub same : (env : Environment) → IsTrue (is_environment env) → IsTrue (links env (unswept (marks_of marks) tree)) → (moves : List Move) (n : ℕ) →
      IsPrefix (events (unswept (marks_of marks) tree) env moves n) (events (alone left) env moves n)
      × IsPrefix (events (alone left) env moves n) (events (unswept (marks_of marks) tree) env moves n)

-- split: the outputs are the secondary and the primary module for the functions that the listed
-- names select. In every environment the primary module under its loader has the trace of n steps
-- of the module within (p + 8) (n + 1) steps, where p is the most parameters of a function that
-- moves, and the module has the trace of n steps of the pair within n; and the secondary module
-- loads wherever a run asks for it.
pub record SplitIsFaithful (split : SplitTask) (before after : FileContents) : Type 0 where
  pub tree : Module
  pub bytes : Text
  pub names : List FuncName
  pub moved : List ℕ
  pub first : Module
  pub second : Module
  pub there : get before split.file ≡ Some bytes
  pub spells : Spells bytes tree false
  pub named : AreFunctionNames bytes names
  pub selected : moved ≡ (plan_of tree names split.words.split split.words.keep).moved
  pub secondary_written : HasWritten after split.outputs.secondary first
  pub secondary_is : first ≡ secondary split.names tree moved
  pub primary_written : HasWritten after split.outputs.primary second
  pub primary_is : second ≡ primary split.names tree moved
  pub same : (env : Environment) → IsTrue (is_environment env) → (moves : List Move) (n : ℕ) →
      IsPrefix (events (alone tree) env moves n) (events_loaded (pair_in_place split.names tree moved second first) env moves ((most_params tree moved + 8) * (n + 1)))
      × IsPrefix (events_loaded (pair_in_place split.names tree moved second first) env moves n) (events (alone tree) env moves n)
  pub loads : AlwaysLoads (pair_in_place split.names tree moved second first)

-- ctor-eval: each listed name is that of an exported function, and the output is the module as its
-- evaluated constructors left it. Step by step it has the trace of the module after these
-- constructors, in each environment that links the module; and the evaluation is the machine's run.
pub record CtorEvalIsFaithful (eval : CtorEvalTask) (before after : FileContents) : Type 0 where
  pub tree : Module
  pub left : Module
  pub read : HasRead before eval.file tree
  pub listed : first_missing tree eval.ctors ≡ None
  pub written : HasWritten after eval.output left
  pub evaluated : left ≡ evaluated_tree tree eval.ctors eval.kept
  pub same : (env : Environment) → IsTrue (is_environment env) → IsTrue (links env (alone tree)) → (moves : List Move) (n : ℕ) →
      IsPrefix (events_evaluated tree (take (evaluated_count tree eval.ctors) eval.ctors) eval.kept env moves n) (events (alone left) env moves n)
      × IsPrefix (events (alone left) env moves n) (events_evaluated tree (take (evaluated_count tree eval.ctors) eval.ctors) eval.kept env moves n)
  pub machine : EvaluatedAsByTheMachine tree (take (evaluated_count tree eval.ctors) eval.ctors) eval.kept

-- The two modules of a sample, as the parts `a` and `b`.
abbrev pub two_parts : SampleTask → List Part
two_parts sample = record { name = Some (codes "a"); «module» = first_module sample.seed sample.count } ∷ record { name = Some (codes "b"); «module» = second_module sample.seed sample.count } ∷ []

-- The file holds the joined module of a sample, and in every environment each of this module and
-- the two parts has the trace of n steps of the other within n + 4 steps.
pub record SampleIsWritten (sample : SampleTask) (after : FileContents) (name : Text) : Type 0 where
  pub tree : Module
  pub written : HasWritten after name tree
  pub joined : tree ≡ joined_module (two_parts sample) Refuse
  pub same : (env : Environment) → IsTrue (is_environment env) → (moves : List Move) (n : ℕ) →
      IsPrefix (events (linked_world (two_parts sample) Refuse) env moves n) (events (alone tree) env moves (n + 4))
      × IsPrefix (events (alone tree) env moves n) (events (linked_world (two_parts sample) Refuse) env moves (n + 4))

-- sample: the output, if it names one, is the joined module of its two modules; and sequential
-- instantiation of these is equivalent to instantiation at once.
pub record SampleIsFaithful (sample : SampleTask) (after : FileContents) : Type 0 where
  pub written : (name : Text) → sample.output ≡ Some name → SampleIsWritten sample after name
  pub sequential : SequentialInstantiationEquivalent (linked_world (two_parts sample) Refuse)
