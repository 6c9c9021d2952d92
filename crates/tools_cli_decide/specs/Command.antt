-- What the types of the code denote in the definitions.
use Rattle.std.specs.Prelude.{List, map, option_map, string_bytes}
use Rattle.tools_cli_spec.specs.CommandLine.{Text}
pub use Rattle.tools_cli_words.specs.Meaning.{names_of, arguments_value}
use Rattle.tools_cli_spec.specs.Effects.{NamedFile}
use Rattle.tools_cli_decide.specs.Sources.{source_values}
use Rattle.tools_cli_decide.specs.declared.merge.MergeTask.{MergeTask}
use Rattle.tools_cli_decide.specs.declared.metadce.MetadceTask.{MetadceTask}
use Rattle.tools_cli_decide.specs.declared.split.SplitOutputs.{SplitOutputs}
use Rattle.tools_cli_decide.specs.declared.split.SplitTask.{SplitTask}
use Rattle.tools_cli_decide.specs.declared.ctor_eval.CtorEvalTask.{CtorEvalTask}
use Rattle.tools_cli_decide.specs.declared.sample.SampleTask.{SampleTask}
use Rattle.tools_cli_decide.specs.declared.task.Task.{Task}
use Rattle.tools_cli_decide.specs.declared.output.Output.{Output}
use Rattle.tools_cli_decide.specs.declared.output.Decision.{Decision}
use Rattle.tools_cli_decide.specs.declared.input.Input.{Input}
use Rattle.tools_cli_spec.specs.CommandLine as words
use Rattle.tools_cli_decide.specs.declared.task.Task.TheVariants as task
use Rattle.tools_cli_spec.specs.Job as job

-- The tasks of commands.
abbrev pub merge_value : MergeTask → words.MergeTask
merge_value merge = record { sources = source_values merge.sources.items; output = merge.output.now; mode = merge.mode }

abbrev pub metadce_value : MetadceTask → words.MetadceTask
metadce_value metadce = record { file = metadce.file.now; graph_file = metadce.graph_file.now; output = metadce.output.now }

abbrev pub outputs_value : SplitOutputs → words.SplitOutputs
outputs_value outputs = record { primary = outputs.primary.now; secondary = outputs.secondary.now }

abbrev pub split_value : SplitTask → words.SplitTask
split_value split = record { file = split.file.now; outputs = outputs_value split.outputs; words = split.words; names = split.names }

abbrev pub ctor_eval_value : CtorEvalTask → words.CtorEvalTask
ctor_eval_value eval = record { file = eval.file.now; ctors = eval.ctors; kept = eval.kept; output = eval.output.now }

abbrev pub sample_value : SampleTask → words.SampleTask
sample_value sample = record { seed = sample.seed; count = sample.count; output = option_map (λ name. name.now) sample.output }

abbrev pub task_value : Task → words.Task
task_value (task.Merge merge) = words.Merge (merge_value merge)
task_value (task.Metadce metadce) = words.Metadce (metadce_value metadce)
task_value (task.Split split) = words.Split (split_value split)
task_value (task.CtorEval eval) = words.CtorEval (ctor_eval_value eval)
task_value (task.Sample sample) = words.Sample (sample_value sample)

-- Files that were read, with their names, and then their bytes alone.
abbrev pub input_entry : Input → NamedFile
input_entry input = (input.name.now, input.bytes.items)

abbrev pub input_entries : List Input → List NamedFile
input_entries inputs = map input_entry inputs

abbrev pub input_texts : List Input → List Text
input_texts inputs = map (λ i. i.bytes.items) inputs

-- Outputs, and what a command has decided.
abbrev pub output_value : Output → job.Output
output_value output = record { name = string_bytes output.name; tree = output.tree; custom = output.custom.items }

abbrev pub output_values : List Output → List job.Output
output_values outputs = map output_value outputs

abbrev pub decision_value : Decision → job.Decision
decision_value decision = job.Makes (output_values decision.outputs.items) decision.lines.items
