-- The headline: if a command is done, each module that it wrote is valid, and what it wrote is
-- observationally equivalent to its original in the environments that `equivalence` names. It is
-- stated once for all commands, with a case for each command where they differ.
use Rattle.std.specs.Prelude.{◌≡◌, ℕ, ◌+◌, ◌*◌, Bool, true, List, [], ◌∷◌, drop, take, length, map, Option, Some, None, Ok, IfSome, IsTrue, IsUtf8, Contains}
use Rattle.std.specs.FinMap.{get}
use Rattle.tool_io.specs.FilesAndSinks.{FileContents}
use Rattle.base_lists.specs.Every.{Every}
use Rattle.tools_cli_spec.specs.CommandLine.{Text, SplitTask, CtorEvalTask, Task, Merge, Metadce, Split, CtorEval, Sample, task_of, many_of, modules_of, inputs_of, outputs_of}
use Rattle.tools_cli_spec.specs.Job.{IsAccepted, parts_of, AreMerged, GivesMarks, words_plan, GivesPlan, sample_merge, sample_parts}
use Rattle.wasm_tree_spec.specs.Prelude.{Module}
use Rattle.wasm_read_spec.specs.Prelude.{Spells}
use Rattle.wasm_meaning.specs.Prelude.{Part, Environment, alone, links, Event, Move, Same, events, LoaderWorld, events_loaded}
use Rattle.merge_names.specs.declared.mode.Mode.{Mode}
use Rattle.merge_spec.specs.Prelude.{linked_world}
use Rattle.dce_graph.specs.declared.graph.Graph.{Graph}
use Rattle.dce_graph.specs.declared.marks.Reached.{Reached}
use Rattle.dce_spec.specs.Reached.{marks_of}
use Rattle.dce_spec.specs.Unswept.{unswept}
use Rattle.dce_sweep.specs.Sweeps.{Sweeps}
use Rattle.wasm_names.specs.declared.func_name.FuncName.{FuncName}
use Rattle.split_spec.specs.Prelude.{split_fault, primary, secondary}
use Rattle.split_proof.specs.SplitLaws.{AlwaysLoads, most_params}
use Rattle.split_proof.specs.SplitWorlds.{pair_in_place}
use Rattle.eval_snapshot_spec.specs.Evaluated.{evaluated_count, evaluated_tree}
use Rattle.eval_snapshot_proof.specs.EvaluatedWorlds.{events_evaluated}
use Rattle.tools_cli_spec.specs.Endings.{fault_of}
use Rattle.tools_cli_spec.specs.Trees.{EvaluatedAsByTheMachine}
use Rattle.wasm_bytes.specs.Prelude.{IsBytes}
use Rattle.merge_proof.specs.SequentialEquivalence.{SequentialInstantiationEquivalent}

-- The file `name` holds an encoding of this module. If `many`, its instructions may name a memory
-- by index.
abbrev pub HoldsModule : Bool → FileContents → Text → Module → Type 0
HoldsModule many files name tree = (bytes : Text) × (get files name ≡ Some bytes) × Spells bytes tree many

-- The files `names` hold encodings of these modules, in order.
abbrev pub HoldModules : Bool → FileContents → List Text → List Module → Type 0
HoldModules many files [] [] = Unit {0}
HoldModules many files (name ∷ names) (tree ∷ trees) = HoldsModule many files name tree × HoldModules many files names trees
HoldModules many files _ _ = ⊥

-- The names of the files that a task writes, in the order of writing. `contents` has the contents
-- of the files that it reads: its modules first, then its other files.
abbrev pub output_names : Task → (contents : List Text) → List Text
output_names task contents = outputs_of task (drop (length (modules_of task)) contents)

-- ---- what a task makes ----

-- What the statements below need besides the modules that were read and written: for a metadce, the
-- marks on what is reached; for a split, the names that the name section gives to functions; for
-- the other commands, nothing.
abbrev pub Findings : Task → Type 0
Findings (Merge merge) = Unit {0}
Findings (Metadce metadce) = Reached
Findings (Split split) = List FuncName
Findings (CtorEval eval) = Unit {0}
Findings (Sample sample) = Unit {0}

-- `text` is a graph file. The marks are on exactly those nodes, exports, imports, functions and
-- globals that a path meets from a root of the graph or of the module (its start, its imported
-- tables and memories, what its active and passive segments name). `left` is the module without
-- what is not marked.
abbrev pub IsLeft : Text → Module → Reached → Module → Type 0
IsLeft text tree marks left = (graph : Graph) × GivesMarks text tree graph marks × Sweeps (marks_of marks) tree (Ok left)

-- `names` are the function names in the name section of these bytes. With them the listed names
-- have no fault and select the functions that move, and moving these has no fault either (a
-- namespace or an export name that is taken, or a count above its limit). The two modules are the
-- secondary and the primary module of that split.
abbrev pub ArePair : SplitTask → Text → Module → List FuncName → (secondary_module primary_module : Module) → Type 0
ArePair split bytes tree names secondary_module primary_module =
    GivesPlan split bytes tree names × (split_fault split.names tree (words_plan split tree names).moved ≡ None)
    × (secondary_module ≡ secondary split.names tree (words_plan split tree names).moved)
    × (primary_module ≡ primary split.names tree (words_plan split tree names).moved)

-- Each listed constructor is an exported function. `after` is the module whose globals, memory and
-- data segments are as the evaluated constructors left them or, if none is evaluated, the module
-- itself. None of its counts is above its limit.
abbrev pub IsEvaluated : CtorEvalTask → (tree after : Module) → Type 0
IsEvaluated eval tree after = (fault_of tree eval.ctors eval.kept ≡ None) × (after ≡ evaluated_tree tree eval.ctors eval.kept)

-- A task makes these outputs, in the order of writing, of these modules and of the contents of all
-- its files:
-- - merge: the module that the parts are merged into;
-- - metadce: the module without the functions, globals, imports and exports that no path from a
--   root reaches;
-- - split: the secondary and the primary module;
-- - ctor-eval: the module as its evaluated constructors left it;
-- - sample: each output is the module that its two modules are merged into.
abbrev pub AreMade : (task : Task) → (trees : List Module) → (contents : List Text) → Findings task → (outputs : List Module) → Type 0
AreMade (Merge merge) trees contents found (tree ∷ []) = AreMerged (many_of (Merge merge)) (parts_of merge.sources trees) merge.mode tree
AreMade (Merge merge) trees contents found _ = ⊥
AreMade (Metadce metadce) (tree ∷ []) (bytes ∷ text ∷ []) marks (left ∷ []) = IsLeft text tree marks left
AreMade (Metadce metadce) _ _ marks _ = ⊥
AreMade (Split split) (tree ∷ []) (bytes ∷ []) names (first ∷ second ∷ []) = ArePair split bytes tree names first second
AreMade (Split split) _ _ names _ = ⊥
AreMade (CtorEval eval) (tree ∷ []) (bytes ∷ []) found (after ∷ []) = IsEvaluated eval tree after
AreMade (CtorEval eval) _ _ found _ = ⊥
AreMade (Sample sample) [] [] found outputs = Every (AreMerged (many_of (Sample sample)) (sample_parts sample) sample_merge.mode) outputs
AreMade (Sample sample) _ _ found _ = ⊥

-- ---- what is observed of it ----

-- The trace (the list of events) of the first n steps of a run, in an environment and with the
-- moves of its embedder.
abbrev pub WayToRun : Type 0
WayToRun = Environment → List Move → ℕ → List Event

-- A claim about the original and what was written. In each of `environments` and for each list of
-- moves, the trace of n steps of the original is a prefix of the trace of `written_bound n` steps
-- of what was written, and the trace of n steps of what was written is a prefix of the trace of
-- `original_bound n` steps of the original (`Holds`).
pub record Equivalence : Type 0 where
  pub original_world : WayToRun
  pub written_world : WayToRun
  pub written_bound : ℕ → ℕ
  pub original_bound : ℕ → ℕ
  pub environments : Environment → Bool

abbrev pub Holds : Equivalence → Type 0
Holds claim = Same (λ env. IsTrue (claim.environments env)) claim.original_world claim.written_world claim.written_bound claim.original_bound

-- The primary module under its loader: its imports for the functions that moved are placeholders,
-- and the first call of one instantiates the secondary module. The embedder sees the exports of the
-- module that was split, as the primary module has them.
abbrev pub written_pair : SplitTask → Module → List FuncName → (secondary_module primary_module : Module) → LoaderWorld
written_pair split tree names secondary_module primary_module =
    pair_in_place split.names tree (words_plan split tree names).moved primary_module secondary_module

-- The names of the constructors that are evaluated: the longest prefix of the list that runs to its
-- end with nothing to stop it.
abbrev pub evaluated_names : CtorEvalTask → Module → List Text
evaluated_names eval tree = take (evaluated_count tree eval.ctors) eval.ctors

-- Original: the parts, linked by name and instantiated at once, with their exports under the names
-- that `mode` gives. Written: the module alone. Each has the trace of n steps of the other within
-- n + 4 steps, in every environment.
abbrev pub merged_equivalence : List Part → Mode → Module → Equivalence
merged_equivalence parts mode tree = record {
  original_world = events (linked_world parts mode);
  written_world = events (alone tree);
  written_bound = λ n. n + 4;
  original_bound = λ n. n + 4;
  environments = λ env. true;
}

-- The claim about a task that made these outputs of these modules. It is `None` for lists of a
-- length that the command does not have, which `AreMade` or `written` rules out, and for a sample
-- that writes nothing: then there is no output that could be equivalent.
abbrev pub equivalence : (task : Task) → Findings task → (trees outputs : List Module) → Option Equivalence
-- merge: its parts, and the output alone.
equivalence (Merge merge) found trees (tree ∷ []) = Some (merged_equivalence (parts_of merge.sources trees) merge.mode tree)
equivalence (Merge merge) found trees _ = None
-- metadce. Original: the module, of which the embedder sees only the exports that are kept.
-- Written: what is left, alone. After each number of steps the traces are equal, in each
-- environment that links the module (with that smaller view; for a valid module this is the same).
equivalence (Metadce metadce) marks (tree ∷ []) (left ∷ []) = Some (record {
  original_world = events (unswept (marks_of marks) tree);
  written_world = events (alone left);
  written_bound = λ n. n;
  original_bound = λ n. n;
  environments = λ env. links env (unswept (marks_of marks) tree);
})
equivalence (Metadce metadce) marks _ _ = None
-- split. Original: the module alone. Written: the primary module under its loader, which calls, in
-- place of a placeholder, the function that is then in its slot. The pair has the trace of n steps
-- of the original within (p + 8) (n + 1) steps, where p is the most parameters of a function that
-- moves; the original has the trace of n steps of the pair within n. This is so in every
-- environment.
equivalence (Split split) names (tree ∷ []) (first ∷ second ∷ []) = Some (record {
  original_world = events (alone tree);
  written_world = events_loaded (written_pair split tree names first second);
  written_bound = λ n. (most_params tree (words_plan split tree names).moved + 8) * (n + 1);
  original_bound = λ n. n;
  environments = λ env. true;
})
equivalence (Split split) names _ _ = None
-- ctor-eval. Original: the module after its evaluated constructors. Its first step instantiates the
-- module, runs its start and calls the evaluated constructors to their ends. The next step opens
-- the view, which has the export names of the output; a kept name of an evaluated constructor
-- denotes a function that does nothing. If no constructor is evaluated, the original is the module
-- itself. Written: the output alone. After each number of steps the traces are equal, in each
-- environment that links the module.
equivalence (CtorEval eval) found (tree ∷ []) (after ∷ []) = Some (record {
  original_world = events_evaluated tree (evaluated_names eval tree) eval.kept;
  written_world = events (alone after);
  written_bound = λ n. n;
  original_bound = λ n. n;
  environments = λ env. links env (alone tree);
})
equivalence (CtorEval eval) found _ _ = None
-- sample: its two modules as the parts of a merge, and the output alone.
equivalence (Sample sample) found trees (tree ∷ []) = Some (merged_equivalence (sample_parts sample) sample_merge.mode tree)
equivalence (Sample sample) found trees _ = None

-- What is claimed besides the equivalence:
-- - merge and sample, also a sample that writes nothing: sequential instantiation of the q parts is
--   equivalent to instantiation at once, each within n + 4q steps of the other. Premises: there is
--   at least one part, each joined import leads to an earlier part, no part after one with a start
--   has an active segment, and the environment links the parts and lets no segment trap.
-- - split: wherever in a run the loader instantiates the secondary module, all imports match and no
--   segment traps.
-- - ctor-eval: the evaluation is the machine's run of these constructors.
abbrev pub FurtherClaims : (task : Task) → Findings task → (trees outputs : List Module) → Type 0
FurtherClaims (Merge merge) found trees outputs = SequentialInstantiationEquivalent (linked_world (parts_of merge.sources trees) merge.mode)
FurtherClaims (Metadce metadce) marks trees outputs = Unit {0}
FurtherClaims (Split split) names (tree ∷ []) (first ∷ second ∷ []) = AlwaysLoads (written_pair split tree names first second)
FurtherClaims (Split split) names _ _ = Unit {0}
FurtherClaims (CtorEval eval) found (tree ∷ []) outputs = EvaluatedAsByTheMachine tree (evaluated_names eval tree) eval.kept
FurtherClaims (CtorEval eval) found _ outputs = Unit {0}
FurtherClaims (Sample sample) found trees outputs = SequentialInstantiationEquivalent (linked_world (sample_parts sample) sample_merge.mode)

-- ---- the headline ----

-- A task that is done is sound. Its module files encoded `trees`, and all files that it reads had
-- `contents`. `outputs` are what its command makes of these; the files under its output names now
-- encode them, and each output is valid and has at most one memory. The claims above hold. An
-- output may have the name of an input: `trees` and `contents` are then from before it was written.
pub record TaskIsSound (task : Task) (before after : FileContents) : Type 0 where
  pub trees : List Module
  pub contents : List Text
  pub found : Findings task
  pub outputs : List Module
  pub read : HoldModules (many_of task) before (modules_of task) trees
  pub held : map (get before) (inputs_of task) ≡ map Some contents
  pub made : AreMade task trees contents found outputs
  pub written : HoldModules (many_of task) after (output_names task contents) outputs
  pub accepted : Every (IsAccepted (many_of task)) outputs
  pub behaves : IfSome (equivalence task found trees outputs) Holds
  pub also : FurtherClaims task found trees outputs

-- If the arguments ask for a split, they are UTF-8. Names of imports and exports come from them,
-- and a module with a name that is not UTF-8 has no encoding.
abbrev pub SplitWordsAreText : List Text → Type 0
SplitWordsAreText words = (split : SplitTask) → task_of words ≡ Some (Split split) → Every IsUtf8 words

-- The files `names` hold numbers below 256.
abbrev pub HoldBytesAt : List Text → FileContents → Type 0
HoldBytesAt names files = (name bytes : Text) → Contains names name → get files name ≡ Some bytes → IsBytes bytes

-- The files that the task of these arguments reads hold numbers below 256.
abbrev pub ReadsBytes : List Text → FileContents → Type 0
ReadsBytes words files = (task : Task) → task_of words ≡ Some task → HoldBytesAt (inputs_of task) files

-- The arguments ask for a task, and it is sound from the files before to the files after.
abbrev pub IsFaithful : (words : List Text) → (before after : FileContents) → Type 0
IsFaithful words before after = (task : Task) × (task_of words ≡ Some task) × TaskIsSound task before after

-- The contents of the files after the run are known, and from the files before to these the run was
-- faithful.
abbrev pub EndsFaithful : (words : List Text) → (before : FileContents) → (new : Option FileContents) → Type 0
EndsFaithful words before new = (after : FileContents) × (new ≡ Some after) × IsFaithful words before after
