-- The exit statuses, and what is printed on standard error.
use Rattle.std.specs.Prelude.{◌≡◌, ℕ, ◌++◌, List, Some, codes}
use Rattle.tool_io.specs.FilesAndSinks.{AppendsPrefix}
use Rattle.tools_cli_spec.specs.CommandLine.{Text, usage_line}
use Rattle.tools_cli_spec.specs.Texts.{fault_text, invalid_text, link_text, join_text, too_many_parts, too_many, graph_text, plan_text, split_text, eval_text}
use Rattle.wasm_tree_spec.specs.Prelude.{Which}
use Rattle.wasm_read_spec.specs.declared.fault.ReadFault.{ReadFault}
use Rattle.tools_cli_spec.specs.declared.status.Status.{Status}
use Rattle.dce_graph.specs.declared.fault.GraphFault.{GraphFault}
use Rattle.split_plan.specs.declared.fault.PlanFault.{PlanFault}
use Rattle.split_spec.specs.declared.faults.SplitFault.{SplitFault}
use Rattle.tools_cli_spec.specs.declared.evaluation.EvalFault.{EvalFault}
use Rattle.merge_spec.specs.declared.faults.LinkFault.{LinkFault}
use Rattle.merge_spec.specs.declared.faults.JoinFault.{JoinFault}
use Rattle.wasm_valid.specs.declared.kinds.Invalid as first
use Rattle.tools_cli_spec.specs.declared.status.Status.TheVariants as status

-- The exit status of the program.
abbrev pub code_of : Status → ℕ
code_of status.Done = 0
code_of status.Refused = 1
code_of status.Usage = 2
code_of status.Outside = 3
code_of status.NoMemory = 4

-- The line on standard error that has this text.
abbrev pub stop_line : Text → Text
stop_line text = codes "binkit: " ++ (text ++ codes "\n")

abbrev pub cannot_read : Text → Text
cannot_read file = codes "cannot read " ++ file

abbrev pub cannot_write : Text → Text
cannot_write file = codes "cannot write " ++ file

abbrev pub cannot_print : Text
cannot_print = codes "cannot write standard output"

abbrev pub no_memory : Text
no_memory = codes "no memory"

-- The lines that may be printed on standard error.
pub data IsLine : Text → Type 0 where
  usage : (words : List Text) → IsLine (usage_line words)
  fault_line : (file text : Text) (fault : ReadFault) → fault_text file fault ≡ Some text → IsLine (stop_line text)
  invalid_line : (file : Text) (item : first.Invalid) → IsLine (stop_line (invalid_text file item))
  parts_line : IsLine (stop_line too_many_parts)
  link_line : (files : List Text) (text : Text) (fault : LinkFault) → link_text files fault ≡ Some text → IsLine (stop_line text)
  join_line : (text : Text) (fault : JoinFault) → join_text fault ≡ Some text → IsLine (stop_line text)
  graph_line : (file text : Text) (fault : GraphFault) → graph_text file fault ≡ Some text → IsLine (stop_line text)
  plan_line : (text : Text) (fault : PlanFault) → plan_text fault ≡ Some text → IsLine (stop_line text)
  split_line : (file text : Text) (fault : SplitFault) → split_text file fault ≡ Some text → IsLine (stop_line text)
  eval_line : (text : Text) (fault : EvalFault) → eval_text fault ≡ Some text → IsLine (stop_line text)
  output_line : (which : Which) → IsLine (stop_line (too_many which))
  cannot_read_line : (file : Text) → IsLine (stop_line (cannot_read file))
  cannot_write_line : (file : Text) → IsLine (stop_line (cannot_write file))
  cannot_print_line : IsLine (stop_line cannot_print)
  no_memory_line : IsLine (stop_line no_memory)

-- A prefix of one of these lines was printed.
abbrev pub Says : Text → Text → Type 0
Says old new = (line : Text) × IsLine line × AppendsPrefix line old new
