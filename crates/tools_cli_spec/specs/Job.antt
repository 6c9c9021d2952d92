-- The job of a command line: what it results in, as a relation to the contents of the files.
use Rattle.std.specs.Prelude.{◌≡◌, ◌⊎◌, ℕ, ◌-◌, ltb, not, if◌then◌else◌, Bool, false, List, [], ◌∷◌, ◌++◌, length, map, take, Option, Some, None, option_map, codes, Result, Ok, Err}
use Rattle.std.specs.FinMap.{get}
use Rattle.std.specs.List.{list_all, cons_option}
use Rattle.base_lists.specs.Every.{Every}
use Rattle.tool_io.specs.FilesAndSinks.{FileContents}
use Rattle.wasm_bytes.specs.Prelude.{IsBytes}
use Rattle.tools_cli_spec.specs.CommandLine.{Text, Source, MergeTask, MetadceTask, SplitTask, CtorEvalTask, SampleTask, Task, Merge}
use Rattle.tools_cli_spec.specs.CommandLine.{Metadce, Split, CtorEval, Sample, task_of, source_files, many_of, modules_of, inputs_of}
use Rattle.wasm_meaning.specs.Prelude.{Part}
use Rattle.dce_graph.specs.declared.graph.Graph.{Graph}
use Rattle.dce_graph.specs.declared.marks.Reached.{Reached}
use Rattle.dce_graph.specs.declared.fault.GraphFault.{GraphFault}
use Rattle.dce_graph.specs.Prelude.{AreExact, graph_result}
use Rattle.dce_spec.specs.Reached.{marks_of}
use Rattle.dce_sweep.specs.declared.faults.SweepFault.{SweepFault}
use Rattle.dce_sweep.specs.Sweeps.{Sweeps}
use Rattle.wasm_names.specs.declared.func_name.FuncName.{FuncName}
use Rattle.wasm_names.specs.NameList.{AreFunctionNames}
use Rattle.split_plan.specs.declared.plans.Plan.{Plan}
use Rattle.split_plan.specs.declared.fault.PlanFault.{PlanFault}
use Rattle.split_plan.specs.PlannedMoves.{plan_fault, plan_of}
use Rattle.split_spec.specs.declared.faults.SplitFault.{SplitFault}
use Rattle.split_spec.specs.Prelude.{split_fault, primary, secondary}
use Rattle.eval_snapshot_spec.specs.Evaluated.{evaluated_tree}
use Rattle.tools_cli_spec.specs.declared.evaluation.EvalFault.{EvalFault}
use Rattle.tools_cli_spec.specs.Endings.{fault_of}
use Rattle.wasm_gen.specs.Modules.{first_module, second_module}
use Rattle.merge_names.specs.declared.mode.Mode.{Mode}
use Rattle.merge_spec.specs.declared.faults.LinkFault.{LinkFault}
use Rattle.merge_spec.specs.declared.faults.JoinFault.{JoinFault}
use Rattle.merge_spec.specs.Prelude.{link_fault, Joins}
use Rattle.tools_cli_spec.specs.Effects.{NamedFile}
use Rattle.tools_cli_spec.specs.Unused.{AreUnused, unused_lines}
use Rattle.tools_cli_spec.specs.KeptFuncs.{kept_lines}
use Rattle.tools_cli_spec.specs.EvaluationLines.{evaluation_lines}
use Rattle.tools_cli_spec.specs.Texts.{fault_text, invalid_text, link_text, join_text, graph_text, sweep_text, plan_text, split_text, eval_text, over_limit, too_many_parts, too_many}
use Rattle.tools_cli_spec.specs.SampleLines.{sample_lines}
use Rattle.wasm_tree_spec.specs.Prelude.{Module, InputBytes, limit}
use Rattle.wasm_tree.specs.declared.which.Which.TheVariants.{Parts, OutputBytes}
use Rattle.wasm_read_spec.specs.declared.fault.ReadFault.{ReadFault}
use Rattle.wasm_read_spec.specs.Prelude.{Spells, Within, read_fault}
use Rattle.wasm_valid.specs.declared.kinds.Invalid.{Invalid}
use Rattle.wasm_valid.specs.Prelude.{IsValid, IsSingle, IsFirstInvalid}
use Rattle.wasm_write_spec.specs.Plain.{plain}
use Rattle.merge_names.specs.declared.mode.Mode.TheVariants as mode

-- The most parts that a merge may have.
abbrev pub most_parts : ℕ
most_parts = limit Parts

-- The most bytes that all input files of a command may have together.
abbrev pub most_input : ℕ
most_input = limit InputBytes

-- The most bytes that the canonical encoding of one output may have.
abbrev pub most_output : ℕ
most_output = limit OutputBytes

-- What a command line results in: it asks for no task; a file is missing when its turn comes; it is
-- refused with a text; or it is done, with these writes in order and then these lines on standard
-- output.
pub data Job : Type 0 where
  Usage : Job
  Missing : Job
  Refused : Text → Job
  Done : List NamedFile → Text → Job

-- The result of reading files in order: the name and the contents of each, or the first file that
-- is missing or too long.
pub data Gathered : Type 0 where
  Whole : List NamedFile → Gathered
  Lacks : Text → Gathered
  TooLong : Text → Gathered

abbrev pub add_first : NamedFile → Gathered → Gathered
add_first file (Whole rest) = Whole (file ∷ rest)
add_first file other = other

-- Reads the file `name`, if it has at most `left` bytes, and then the rest.
abbrev pub add_file : Text → ℕ → Option Text → (ℕ → Gathered) → Gathered
add_file name left None rest = Lacks name
add_file name left (Some bytes) rest = if ltb left (length bytes) then TooLong name else add_first (name, bytes) (rest (left - length bytes))

-- Reads the files `names` in order, at most `most` bytes together.
abbrev pub gathered : List Text → FileContents → ℕ → Gathered
gathered [] files most = Whole []
gathered (name ∷ names) files most = add_file name most (get files name) (gathered names files)

-- The bytes encode `tree`, within the limits. If `many`, its instructions may name a memory by
-- index.
pub record IsReadAs (many : Bool) (bytes : Text) (tree : Module) : Type 0 where
  pub spelled : Spells bytes tree many
  pub within : Within bytes many

-- The module is valid and, unless `many`, has at most one memory.
pub record IsAccepted (many : Bool) (tree : Module) : Type 0 where
  pub valid : IsValid tree
  pub single : many ≡ false → IsSingle tree

-- The result of loading the bytes of a file: the module that they encode within the limits, if it
-- is accepted; or else the text of their first fault or of the module's first invalid item.
pub data LoadsFile (many : Bool) (file bytes : Text) : Result Module Text → Type 0 where
  loaded : (tree : Module) → IsReadAs many bytes tree → IsAccepted many tree → LoadsFile many file bytes (Ok tree)
  faulty : (fault : ReadFault) (text : Text) → read_fault bytes many ≡ Some fault → fault_text file fault ≡ Some text → LoadsFile many file bytes (Err text)
  invalid : (tree : Module) (item : Invalid) → IsReadAs many bytes tree → IsFirstInvalid tree many item → LoadsFile many file bytes (Err (invalid_text file item))

-- The files load, in order, as these modules.
abbrev pub AllLoad : Bool → List NamedFile → List Module → Type 0
AllLoad many [] [] = Unit {0}
AllLoad many (file ∷ files) (tree ∷ trees) = LoadsFile many file.0 file.1 (Ok tree) × AllLoad many files trees
AllLoad many _ _ = ⊥

-- One of the files does not load, and the first such file is refused with this text.
abbrev pub OneFails : Bool → List NamedFile → Text → Type 0
OneFails many [] text = ⊥
OneFails many (file ∷ files) text = LoadsFile many file.0 file.1 (Err text) ⊎ ((tree : Module) × LoadsFile many file.0 file.1 (Ok tree) × OneFails many files text)

-- ---- what a task decides ----

-- An output: its name, its module, and the custom sections that follow the canonical encoding of
-- the module.
pub record Output : Type 0 where
  pub name : Text
  pub tree : Module
  pub custom : Text

-- What a task decides over what it has read: it refuses with a text; or it makes these outputs, in
-- the order of writing, and then these lines on standard output.
pub data Decision : Type 0 where
  Refuses : Text → Decision
  Makes : List Output → Text → Decision

-- The parts of a merge: the modules, each with the name of its source.
abbrev pub parts_of : List Source → List Module → List Part
parts_of (source ∷ sources) (tree ∷ trees) = record { name = Some source.name; «module» = tree } ∷ parts_of sources trees
parts_of _ _ = []

-- The parts link, and joining them gives `tree`. Only if `many`, they may have several memories.
abbrev pub AreMerged : (many : Bool) → List Part → Mode → Module → Type 0
AreMerged many parts mode tree = (link_fault parts many ≡ None) × Joins parts mode (Ok tree)

-- What a merge of these modules decides: the parts do not link; they cannot be joined; or the
-- output is the merged module, without lines.
pub data Merges (merge : MergeTask) (trees : List Module) : Decision → Type 0 where
  not_linked : (fault : LinkFault) (text : Text) → link_fault (parts_of merge.sources trees) (many_of (Merge merge)) ≡ Some fault → link_text (source_files merge) fault ≡ Some text →
      Merges merge trees (Refuses text)
  not_joined : (fault : JoinFault) (text : Text) → link_fault (parts_of merge.sources trees) (many_of (Merge merge)) ≡ None → Joins (parts_of merge.sources trees) merge.mode (Err fault) →
      join_text fault ≡ Some text
      → Merges merge trees (Refuses text)
  merged : (tree : Module) → AreMerged (many_of (Merge merge)) (parts_of merge.sources trees) merge.mode tree →
      Merges merge trees (Makes (record { name = merge.output; tree = tree; custom = [] } ∷ []) [])

-- `text` encodes this graph, and the marks are on exactly what is reached in this module through
-- it.
pub record GivesMarks (text : Text) (tree : Module) (graph : Graph) (marks : Reached) : Type 0 where
  pub read : graph_result text ≡ Ok graph
  pub exact : AreExact graph tree marks

-- What a metadce of this module decides, if its graph file has this text: the text is not a graph;
-- what is left of the module is above a limit; or the output is what is left, with a line for each
-- name of a node that is not reached.
pub data SweepsByGraph (metadce : MetadceTask) (tree : Module) (text : Text) : Decision → Type 0 where
  no_graph : (fault : GraphFault) (says : Text) → graph_result text ≡ Err fault → graph_text metadce.graph_file fault ≡ Some says → SweepsByGraph metadce tree text (Refuses says)
  not_swept : (graph : Graph) (marks : Reached) (fault : SweepFault) (says : Text) → GivesMarks text tree graph marks → Sweeps (marks_of marks) tree (Err fault) → sweep_text fault ≡ Some says →
      SweepsByGraph metadce tree text (Refuses says)
  swept_by_marks : (graph : Graph) (marks : Reached) (left : Module) (unused : List Text) → GivesMarks text tree graph marks → Sweeps (marks_of marks) tree (Ok left) → AreUnused graph tree unused
      → SweepsByGraph metadce tree text (Makes (record { name = metadce.output; tree = left; custom = [] } ∷ []) (unused_lines unused))

-- Which functions move in a split, and which were to move and are kept because their bodies name a
-- segment; then the first fault of the listed names. `names` are the names that the module's
-- functions have.
abbrev pub words_plan : SplitTask → Module → List FuncName → Plan
words_plan split tree names = plan_of tree names split.words.split split.words.keep

abbrev pub words_fault : SplitTask → Module → List FuncName → Option PlanFault
words_fault split tree names = plan_fault tree names split.words.split split.words.keep

-- `names` are the names that the file gives its functions, and with them the listed names have no
-- fault.
pub record GivesPlan (split : SplitTask) (bytes : Text) (tree : Module) (names : List FuncName) : Type 0 where
  pub named : AreFunctionNames bytes names
  pub planned : words_fault split tree names ≡ None

-- Both modules of a split as outputs, the secondary one first.
abbrev pub both_modules : SplitTask → Module → (moved : List ℕ) → List Output
both_modules split tree moved =
    record { name = split.outputs.secondary; tree = secondary split.names tree moved; custom = [] } ∷ record { name = split.outputs.primary; tree = primary split.names tree moved; custom = [] } ∷ []

-- What a split of this module decides, where `bytes` are those of its file: the listed names have a
-- fault; the module cannot be split; or the outputs are both modules, with a line for each function
-- that was to move and is kept.
pub data Splits (split : SplitTask) (tree : Module) (bytes : Text) : Decision → Type 0 where
  no_plan : (names : List FuncName) (fault : PlanFault) (says : Text) → AreFunctionNames bytes names → words_fault split tree names ≡ Some fault → plan_text fault ≡ Some says →
      Splits split tree bytes (Refuses says)
  not_parted : (names : List FuncName) (fault : SplitFault) (says : Text) → GivesPlan split bytes tree names → split_fault split.names tree (words_plan split tree names).moved ≡ Some fault →
      split_text split.file fault ≡ Some says
      → Splits split tree bytes (Refuses says)
  parted : (names : List FuncName) → GivesPlan split bytes tree names → split_fault split.names tree (words_plan split tree names).moved ≡ None
      → Splits split tree bytes (Makes (both_modules split tree (words_plan split tree names).moved) (kept_lines tree names (words_plan split tree names).kept))

-- What `ctor-eval` decides for this module: no function is exported under a listed name, or the
-- module after the evaluation is above a limit; or the output is the module after the evaluated
-- constructors, with a line for each of these and, if something stopped the next constructor or the
-- instantiation, a line that says what.
pub data Evaluates (eval : CtorEvalTask) (tree : Module) : Decision → Type 0 where
  not_evaluated : (fault : EvalFault) (says : Text) → fault_of tree eval.ctors eval.kept ≡ Some fault → eval_text fault ≡ Some says → Evaluates eval tree (Refuses says)
  evaluated : fault_of tree eval.ctors eval.kept ≡ None
      → Evaluates eval tree (Makes (record { name = eval.output; tree = evaluated_tree tree eval.ctors eval.kept; custom = [] } ∷ []) (evaluation_lines tree eval.ctors))

-- The two modules of a sample.
abbrev pub sample_modules : SampleTask → List Module
sample_modules sample = first_module sample.seed sample.count ∷ second_module sample.seed sample.count ∷ []

-- How the two modules are merged: as parts `a` and `b`, which in texts also name the files, and two
-- exports of the same name are refused. The output here is not used, because a sample names its
-- own.
abbrev pub sample_merge : MergeTask
sample_merge = record { sources = record { file = codes "a"; name = codes "a" } ∷ record { file = codes "b"; name = codes "b" } ∷ []; output = []; mode = mode.Refuse }

-- The two modules of a sample, as the parts of a merge.
abbrev pub sample_parts : SampleTask → List Part
sample_parts sample = parts_of sample_merge.sources (sample_modules sample)

-- The merged module as the output, if the sample names one.
abbrev pub sample_outputs : SampleTask → Module → List Output
sample_outputs sample tree = cons_option (option_map (λ name. record { name = name; tree = tree; custom = [] }) sample.output) []

-- What a sample decides: merging its modules is refused; or they are merged, and lines report the
-- sample.
pub data Samples (sample : SampleTask) : Decision → Type 0 where
  not_merged : (text : Text) → Merges sample_merge (sample_modules sample) (Refuses text) → Samples sample (Refuses text)
  sampled : (tree : Module) → AreMerged (many_of (Sample sample)) (sample_parts sample) sample_merge.mode tree → Samples sample (Makes (sample_outputs sample tree) (sample_lines sample tree))

-- What a task decides over its modules and the contents of all its files, the modules first.
abbrev pub Decides : Task → List Module → (contents : List Text) → Decision → Type 0
Decides (Merge merge) trees contents decision = Merges merge trees decision
Decides (Metadce metadce) (tree ∷ []) (bytes ∷ text ∷ []) decision = SweepsByGraph metadce tree text decision
Decides (Metadce metadce) _ _ decision = ⊥
Decides (Split split) (tree ∷ []) (bytes ∷ []) decision = Splits split tree bytes decision
Decides (Split split) _ _ decision = ⊥
Decides (CtorEval eval) (tree ∷ []) (bytes ∷ []) decision = Evaluates eval tree decision
Decides (CtorEval eval) _ _ decision = ⊥
Decides (Sample sample) [] [] decision = Samples sample decision
Decides (Sample sample) _ _ decision = ⊥

-- The text with which a task is refused before any file is read: a merge, if it has too many parts.
abbrev pub refused_before : Task → Option Text
refused_before (Merge merge) = if ltb most_parts (length merge.sources) then Some too_many_parts else None
refused_before (Metadce metadce) = None
refused_before (Split split) = None
refused_before (CtorEval eval) = None
refused_before (Sample sample) = None

-- ---- the job ----

-- The canonical encoding of an output is within the limit. Its custom sections are not counted.
abbrev pub is_within : Output → Bool
is_within output = not (ltb most_output (length (plain output.tree)))

-- An output as it is written.
abbrev pub spelled_output : Output → NamedFile
spelled_output output = (output.name, plain output.tree ++ output.custom)

-- The job of a decision. All outputs are compared with the limit before one is written.
abbrev pub job_of : Decision → Job
job_of (Refuses text) = Refused text
job_of (Makes outputs lines) = if list_all is_within outputs then Done (map spelled_output outputs) lines else Refused (too_many OutputBytes)

-- The input files of a task that are modules.
abbrev pub module_files : Task → List NamedFile → List NamedFile
module_files task files = take (length (modules_of task)) files

abbrev pub contents_of : List NamedFile → List Text
contents_of files = map (λ file. file.1) files

-- The job of a task over its input files: its modules are loaded in order, and then the task
-- decides.
pub data InputsJob (task : Task) (files : List NamedFile) : Job → Type 0 where
  not_loaded : (text : Text) → OneFails (many_of task) (module_files task files) text → InputsJob task files (Refused text)
  decided : (trees : List Module) (decision : Decision) → AllLoad (many_of task) (module_files task files) trees → Decides task trees (contents_of files) decision →
      InputsJob task files (job_of decision)

-- The job of a task: it may be refused at once; otherwise its files are read in order, and then it
-- has a job over them.
pub data TaskJob (task : Task) (files : FileContents) : Job → Type 0 where
  not_begun : (text : Text) → refused_before task ≡ Some text → TaskJob task files (Refused text)
  missing : (name : Text) → refused_before task ≡ None → gathered (inputs_of task) files most_input ≡ Lacks name → TaskJob task files Missing
  too_long : (name : Text) → refused_before task ≡ None → gathered (inputs_of task) files most_input ≡ TooLong name → TaskJob task files (Refused (over_limit name InputBytes))
  all_read : (inputs : List NamedFile) (job : Job) → refused_before task ≡ None → gathered (inputs_of task) files most_input ≡ Whole inputs → InputsJob task inputs job → TaskJob task files job

-- The job of a command line over these files.
pub data HasJob (words : List Text) (files : FileContents) : Job → Type 0 where
  no_task : task_of words ≡ None → HasJob words files Usage
  asked : (task : Task) (job : Job) → task_of words ≡ Some task → TaskJob task files job → HasJob words files job

-- If the task is begun and all its files can be read, these hold numbers below 256.
abbrev pub InputsAreBytes : Task → FileContents → Type 0
InputsAreBytes task files =
    (inputs : List NamedFile) → refused_before task ≡ None → gathered (inputs_of task) files most_input ≡ Whole inputs → Every (λ file. IsBytes file.1) inputs

-- This holds of the task of these arguments, if they ask for one.
abbrev pub InputsHoldBytes : List Text → FileContents → Type 0
InputsHoldBytes words files = (task : Task) → task_of words ≡ Some task → InputsAreBytes task files
