-- The task that the arguments of a command line ask for.
use Rattle.std.specs.Prelude.{ℕ, Bool, true, false, if◌then◌else◌, List, [], ◌∷◌, ◌++◌, map, Option, Some, None, option_map, option_and_then, bytes_eq, codes}
use Rattle.std.specs.List.{cons_option}
use Rattle.tools_cli_words.specs.Arguments.{Arguments, output_option, said_together, only_text, only_value, value_if_any, value_or, listed_words}
use Rattle.tools_cli_words.specs.Vocabularies.{rename_flag, skip_flag, vocabulary_of}
pub use Rattle.tools_cli_words.specs.Vocabularies.{merge_vocabulary, metadce_vocabulary, split_vocabulary, ctor_eval_vocabulary, sample_vocabulary}
use Rattle.tools_cli_words.specs.declared.tool.Tool.{Tool}
pub use Rattle.tools_cli_words.specs.Arguments.{Text, are_apart}
use Rattle.tools_cli_spec.specs.Numbers.{number_within}
use Rattle.merge_names.specs.declared.mode.Mode.{Mode}
use Rattle.split_spec.specs.declared.names.SplitNames.{SplitNames}
use Rattle.tools_cli_spec.specs.declared.split_words.SplitWords.{SplitWords}
use Rattle.tools_cli_words.specs.declared.tool.Tool.TheVariants as tool
use Rattle.merge_names.specs.declared.mode.Mode.TheVariants as mode

-- A part of a merge: the file that holds it, and its name.
pub record Source : Type 0 where
  pub file : Text
  pub name : Text

-- What `merge` is to do: merge the parts in order and write the result to `output`. `mode` decides
-- what becomes of an export whose name an earlier export has.
pub record MergeTask : Type 0 where
  pub sources : List Source
  pub output : Text
  pub mode : Mode

-- What `metadce` is to do: remove from the module in `file` what is not reached through the graph
-- in `graph_file`, and write what is left to `output`.
pub record MetadceTask : Type 0 where
  pub file : Text
  pub graph_file : Text
  pub output : Text

-- The output files of a split.
pub record SplitOutputs : Type 0 where
  pub primary : Text
  pub secondary : Text

-- What `split` is to do: split the module in `file` so that the functions which `words` selects
-- move to the secondary module, and write both modules. `names` are the names that a split adds to
-- them.
pub record SplitTask : Type 0 where
  pub file : Text
  pub outputs : SplitOutputs
  pub words : SplitWords
  pub names : SplitNames

-- What `ctor-eval` is to do: evaluate the exported functions `ctors` of the module in `file`, and
-- write the module after them to `output`. An evaluated constructor keeps its export only if its
-- name is in `kept`.
pub record CtorEvalTask : Type 0 where
  pub file : Text
  pub ctors : List Text
  pub kept : List Text
  pub output : Text

-- What `sample` is to do: make two modules of `count` functions each from the seed, merge them and,
-- if there is an `output`, write the merged module to it.
pub record SampleTask : Type 0 where
  pub seed : ℕ
  pub count : ℕ
  pub output : Option Text

-- What a command is to do, with a case for each command.
pub data Task : Type 0 where
  Merge : MergeTask → Task
  Metadce : MetadceTask → Task
  Split : SplitTask → Task
  CtorEval : CtorEvalTask → Task
  Sample : SampleTask → Task

-- ---- merge ----

-- The positional arguments as pairs FILE NAME; `None` if the last FILE has no NAME.
abbrev pub sources_of : List Text → Option (List Source)
sources_of [] = Some []
sources_of (file ∷ []) = None
sources_of (file ∷ name ∷ rest) = option_map (λ sources. record { file = file; name = name } ∷ sources) (sources_of rest)

-- The sources, if there is at least one and their names are distinct.
abbrev pub some_apart : List Source → Option (List Source)
some_apart [] = None
some_apart (source ∷ sources) = if are_apart (map (λ s. s.name) (source ∷ sources)) then Some (source ∷ sources) else None

-- The mode that a flag selects.
abbrev pub flag_mode : Text → Option Mode
flag_mode flag = if bytes_eq flag rename_flag then Some mode.Rename else (if bytes_eq flag skip_flag then Some mode.Skip else None)

-- The mode that the flags select, if there is at most one. Without a flag it is `Refuse`.
abbrev pub merge_mode : List Text → Option Mode
merge_mode [] = Some mode.Refuse
merge_mode (flag ∷ []) = flag_mode flag
merge_mode _ = None

abbrev pub make_merge : Option (List Source) → Option Text → Option Mode → Option Task
make_merge (Some sources) (Some output) (Some mode) = Some (Merge (record { sources = sources; output = output; mode = mode }))
make_merge _ _ _ = None

-- The task of `merge`: pairs FILE NAME, at least one, with distinct names, and an output are
-- required; there is at most one flag.
abbrev pub merge_of_arguments : Arguments → Option Task
merge_of_arguments arguments = make_merge (option_and_then some_apart (sources_of arguments.plain)) (only_value (output_option) arguments) (merge_mode arguments.flags)

-- ---- metadce ----

abbrev pub make_metadce : Option Text → Option Text → Option Text → Option Task
make_metadce (Some file) (Some graph_file) (Some output) = Some (Metadce (record { file = file; graph_file = graph_file; output = output }))
make_metadce _ _ _ = None

-- The task of `metadce`: one positional argument, the file, and both options are required.
abbrev pub metadce_of_arguments : Arguments → Option Task
metadce_of_arguments arguments = make_metadce (only_text arguments.plain) (only_value (codes "--graph-file") arguments) (only_value (output_option) arguments)

-- ---- split ----

-- Both outputs, if their names differ.
abbrev pub make_outputs : (primary secondary : Option Text) → Option SplitOutputs
make_outputs (Some primary) (Some secondary) = if bytes_eq primary secondary then None else Some (record { primary = primary; secondary = secondary })
make_outputs _ _ = None

-- The lists of functions to move and of functions to keep. At least one of them is required.
abbrev pub make_words : (split keep : Option (Option Text)) → Option SplitWords
make_words (Some None) (Some None) = None
make_words (Some split) (Some keep) = Some (record { split = option_map listed_words split; keep = option_map listed_words keep })
make_words _ _ = None

abbrev pub make_names : (import_namespace placeholder_namespace export_prefix : Option Text) → Option SplitNames
make_names (Some import_namespace) (Some placeholder_namespace) (Some export_prefix) =
    Some (record { import_namespace = import_namespace; placeholder_namespace = placeholder_namespace; export_prefix = export_prefix })
make_names _ _ _ = None

abbrev pub outputs_said : Arguments → Option SplitOutputs
outputs_said arguments = make_outputs (only_value (codes "--primary-output") arguments) (only_value (codes "--secondary-output") arguments)

abbrev pub words_said : Arguments → Option SplitWords
words_said arguments = make_words (value_if_any (codes "--split-funcs") arguments) (value_if_any (codes "--keep-funcs") arguments)

-- The names that a split adds. Each of the three options may be absent and has a default.
abbrev pub names_said : Arguments → Option SplitNames
names_said arguments =
    make_names (value_or (codes "--import-namespace") (codes "primary") arguments) (value_or (codes "--placeholder-namespace") (codes "placeholder") arguments)
    (value_or (codes "--export-prefix") (codes "%") arguments)

abbrev pub make_split : Option Text → Option SplitOutputs → Option SplitWords → Option SplitNames → Option Task
make_split (Some file) (Some outputs) (Some words) (Some names) = Some (Split (record { file = file; outputs = outputs; words = words; names = names }))
make_split _ _ _ _ = None

-- The task of `split`: one positional argument, the file, both outputs and one or both lists are
-- required.
abbrev pub split_of_arguments : Arguments → Option Task
split_of_arguments arguments = make_split (only_text arguments.plain) (outputs_said arguments) (words_said arguments) (names_said arguments)

-- ---- ctor-eval ----

-- The entries of a list, if they are distinct.
abbrev pub words_apart : Text → Option (List Text)
words_apart text = if are_apart (listed_words text) then Some (listed_words text) else None

-- The entries of a list; none if the list is absent.
abbrev pub words_if_any : Option Text → List Text
words_if_any None = []
words_if_any (Some text) = listed_words text

abbrev pub make_ctor_eval : Option Text → (ctors : Option (List Text)) → (kept : Option (Option Text)) → (output : Option Text) → Option Task
make_ctor_eval (Some file) (Some ctors) (Some kept) (Some output) = Some (CtorEval (record { file = file; ctors = ctors; kept = words_if_any kept; output = output }))
make_ctor_eval _ _ _ _ = None

-- The task of `ctor-eval`: one positional argument, the file, distinct constructors and an output
-- are required; names to keep may be absent.
abbrev pub ctor_eval_of_arguments : Arguments → Option Task
ctor_eval_of_arguments arguments =
    make_ctor_eval (only_text arguments.plain) (option_and_then words_apart (only_value (codes "--ctors") arguments)) (value_if_any (codes "--kept-exports") arguments)
    (only_value (output_option) arguments)

-- ---- sample ----

-- The seed, from 0 to 2^31 - 1, and then the number of functions of each module, from 1 to 100000.
abbrev pub seed_in : Text → Option ℕ
seed_in text = number_within 0 2147483647 text

abbrev pub count_in : Text → Option ℕ
count_in text = number_within 1 100000 text

abbrev pub make_sample : (plain : List Text) (seed count : Option ℕ) (output : Option (Option Text)) → Option Task
make_sample [] (Some seed) (Some count) (Some output) = Some (Sample (record { seed = seed; count = count; output = output }))
make_sample _ _ _ _ = None

-- The task of `sample`: both numbers are required, the output may be absent, and there are no
-- positional arguments.
abbrev pub sample_of_arguments : Arguments → Option Task
sample_of_arguments arguments =
    make_sample arguments.plain (option_and_then seed_in (only_value (codes "--seed") arguments)) (option_and_then count_in (only_value (codes "--count") arguments))
    (value_if_any (output_option) arguments)

-- ---- all commands ----

-- For each command, the task of the arguments after its name.
abbrev pub merge_of : List Text → Option Task
merge_of words = option_and_then merge_of_arguments (said_together merge_vocabulary words)

abbrev pub metadce_of : List Text → Option Task
metadce_of words = option_and_then metadce_of_arguments (said_together metadce_vocabulary words)

abbrev pub split_of : List Text → Option Task
split_of words = option_and_then split_of_arguments (said_together split_vocabulary words)

abbrev pub ctor_eval_of : List Text → Option Task
ctor_eval_of words = option_and_then ctor_eval_of_arguments (said_together ctor_eval_vocabulary words)

abbrev pub sample_of : List Text → Option Task
sample_of words = option_and_then sample_of_arguments (said_together sample_vocabulary words)

-- The task that a command line asks for, or `None`.
unfoldable pub task_of : List Text → Option Task
task_of [] = None
task_of (word ∷ rest) =
    if bytes_eq word (codes "merge") then merge_of rest
    else (if bytes_eq word (codes "metadce") then metadce_of rest
    else (if bytes_eq word (codes "split") then split_of rest
    else (if bytes_eq word (codes "ctor-eval") then ctor_eval_of rest
    else (if bytes_eq word (codes "sample") then sample_of rest else None))))

-- The tool that the first argument of a command line names.
abbrev pub tool_named : Text → Option Tool
tool_named word =
    if bytes_eq word (codes "merge") then Some tool.Merge
    else (if bytes_eq word (codes "metadce") then Some tool.Metadce
    else (if bytes_eq word (codes "split") then Some tool.Split
    else (if bytes_eq word (codes "ctor-eval") then Some tool.CtorEval
    else (if bytes_eq word (codes "sample") then Some tool.Sample else None))))

-- The tool of a command line.
abbrev pub tool_in : List Text → Option Tool
tool_in [] = None
tool_in (word ∷ _) = tool_named word

-- The arguments after the first one, parsed for the tool that the first one names, or `None`.
abbrev pub said_to_tool : List Text → Option Arguments
said_to_tool [] = None
said_to_tool (word ∷ rest) = option_and_then (λ t. said_together (vocabulary_of t) rest) (tool_named word)

-- The task that arguments, once they are parsed, ask of a tool, or `None`.
abbrev pub task_of_arguments : Tool → Arguments → Option Task
task_of_arguments tool.Merge arguments = merge_of_arguments arguments
task_of_arguments tool.Metadce arguments = metadce_of_arguments arguments
task_of_arguments tool.Split arguments = split_of_arguments arguments
task_of_arguments tool.CtorEval arguments = ctor_eval_of_arguments arguments
task_of_arguments tool.Sample arguments = sample_of_arguments arguments

-- ---- what a task reads, writes and prints ----

-- The files of the parts of a merge.
abbrev pub source_files : MergeTask → List Text
source_files merge = map (λ s. s.file) merge.sources

-- Whether the modules that a task reads and writes may have several memories: false for each task.
abbrev pub many_of : Task → Bool
many_of (Merge merge) = false
many_of (Metadce metadce) = false
many_of (Split split) = false
many_of (CtorEval eval) = false
many_of (Sample sample) = false

-- The files that a task reads as modules, in order.
abbrev pub modules_of : Task → List Text
modules_of (Merge merge) = source_files merge
modules_of (Metadce metadce) = metadce.file ∷ []
modules_of (Split split) = split.file ∷ []
modules_of (CtorEval eval) = eval.file ∷ []
modules_of (Sample sample) = []

-- The files that a task reads besides its modules, in order.
abbrev pub texts_of : Task → List Text
texts_of (Merge merge) = []
texts_of (Metadce metadce) = metadce.graph_file ∷ []
texts_of (Split split) = []
texts_of (CtorEval eval) = []
texts_of (Sample sample) = []

-- The files that a task reads, in order: the modules first.
abbrev pub inputs_of : Task → List Text
inputs_of task = modules_of task ++ texts_of task

-- The files that a task may write, in the order of writing. `texts` are the contents of the files
-- `texts_of`; no output depends on them.
abbrev pub outputs_of : Task → (texts : List Text) → List Text
outputs_of (Merge merge) texts = merge.output ∷ []
outputs_of (Metadce metadce) texts = metadce.output ∷ []
outputs_of (Split split) texts = split.outputs.secondary ∷ split.outputs.primary ∷ []
outputs_of (CtorEval eval) texts = eval.output ∷ []
outputs_of (Sample sample) texts = cons_option sample.output []

-- Whether a task may print lines.
abbrev pub may_print : Task → Bool
may_print (Merge merge) = false
may_print (Metadce metadce) = true
may_print (Split split) = true
may_print (CtorEval eval) = true
may_print (Sample sample) = true

-- The usage line that names all commands.
abbrev pub all_usage : Text
all_usage = codes "usage: binkit merge|split|metadce|ctor-eval|sample\n"

-- The usage line of the command that the first argument names, or that of all commands.
abbrev pub usage_line : List Text → Text
usage_line [] = all_usage
usage_line (word ∷ _) =
    if bytes_eq word (codes "merge") then codes "usage: binkit merge\n"
    else (if bytes_eq word (codes "metadce") then codes "usage: binkit metadce\n"
    else (if bytes_eq word (codes "split") then codes "usage: binkit split\n"
    else (if bytes_eq word (codes "ctor-eval") then codes "usage: binkit ctor-eval\n"
    else (if bytes_eq word (codes "sample") then codes "usage: binkit sample\n" else all_usage))))
