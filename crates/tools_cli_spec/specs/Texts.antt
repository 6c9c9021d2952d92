-- The texts of refusals, without the `binkit: ` before and the end of line after them.
use Rattle.std.specs.Prelude.{ℕ, ◌++◌, List, Option, Some, None, option_map, slice_get, codes, decimal}
use Rattle.wasm_tree_spec.specs.Prelude.{Which}
use Rattle.wasm_read_spec.specs.declared.fault.ReadFault.{ReadFault}
use Rattle.wasm_read_spec.specs.declared.fault.ReadFault.TheVariants.{NotModule, Malformed, MalformedBody, Unsupported, Limit, NoMemory}
use Rattle.wasm_valid.specs.declared.kinds.ItemKind.{ItemKind}
use Rattle.wasm_valid.specs.declared.kinds.Invalid.{Invalid}
use Rattle.merge_spec.specs.declared.faults.LinkFault.{LinkFault}
use Rattle.merge_spec.specs.declared.faults.LinkFault.TheVariants.{ImportMismatch, ImportCycle, LimitsClash, TooManyMemories, GlobalCycle}
use Rattle.merge_spec.specs.declared.faults.JoinFault.{JoinFault}
use Rattle.merge_spec.specs.declared.faults.JoinFault.TheVariants.{ExportConflict, TooMany}
use Rattle.dce_graph.specs.declared.fault.GraphFault.{GraphFault}
use Rattle.dce_sweep.specs.declared.faults.SweepFault.{SweepFault}
use Rattle.split_plan.specs.declared.fault.PlanFault.{PlanFault}
use Rattle.split_spec.specs.declared.faults.SplitFault.{SplitFault}
use Rattle.tools_cli_spec.specs.declared.evaluation.EvalFault.{EvalFault}
use Rattle.tools_cli_spec.specs.CommandLine.{Text}
use Rattle.wasm_tree.specs.declared.which.Which.TheVariants as which
use Rattle.wasm_valid.specs.declared.kinds.ItemKind.TheVariants as kind
use Rattle.merge_spec.specs.declared.faults.LinkFault.TheVariants as link
use Rattle.merge_spec.specs.declared.faults.JoinFault.TheVariants as join
use Rattle.dce_graph.specs.declared.fault.GraphFault.TheVariants as graph
use Rattle.dce_sweep.specs.declared.faults.SweepFault.TheVariants as sweep
use Rattle.split_plan.specs.declared.fault.PlanFault.TheVariants as plan
use Rattle.split_spec.specs.declared.faults.SplitFault.TheVariants as split
use Rattle.tools_cli_spec.specs.declared.evaluation.EvalFault.TheVariants as eval

-- The name of a limited quantity.
abbrev pub which_text : Which → Text
which_text which.InputBytes = codes "input bytes"
which_text which.Parts = codes "parts"
which_text which.Types = codes "types"
which_text which.Imports = codes "imports"
which_text which.Functions = codes "functions"
which_text which.Tables = codes "tables"
which_text which.Memories = codes "memories"
which_text which.Globals = codes "globals"
which_text which.Exports = codes "exports"
which_text which.ElementSegments = codes "element segments"
which_text which.DataSegments = codes "data segments"
which_text which.Nesting = codes "nesting"
which_text which.Locals = codes "locals"
which_text which.Parameters = codes "parameters"
which_text which.Results = codes "results"
which_text which.Trampolines = codes "trampolines"
which_text which.OutputBytes = codes "output bytes"

abbrev pub not_module : Text → Text
not_module file = file ++ codes ": not a WebAssembly module"

abbrev pub malformed : Text → ℕ → Text
malformed file section = file ++ (codes ": malformed section " ++ decimal section)

abbrev pub malformed_body : Text → ℕ → Text
malformed_body file func = file ++ (codes ": malformed function " ++ decimal func)

abbrev pub unsupported : Text → ℕ → Text
unsupported file section = file ++ (codes ": unsupported in section " ++ decimal section)

abbrev pub unsupported_body : Text → ℕ → Text
unsupported_body file func = file ++ (codes ": unsupported in function " ++ decimal func)

abbrev pub over_limit : Text → Which → Text
over_limit file which = file ++ (codes ": limit on " ++ which_text which)

abbrev pub too_many_parts : Text
too_many_parts = codes "limit on parts"

abbrev pub too_many : Which → Text
too_many which = codes "output exceeds the limit on " ++ which_text which

abbrev pub import_mismatch : Text → ℕ → Text
import_mismatch file import = file ++ (codes ": import " ++ (decimal import ++ codes " does not match"))

abbrev pub import_cycle : Text → ℕ → Text
import_cycle file import = file ++ (codes ": import " ++ (decimal import ++ codes " has no end"))

abbrev pub limits_clash : Text → ℕ → Text
limits_clash file import = file ++ (codes ": import " ++ (decimal import ++ codes " has limits that clash"))

abbrev pub global_cycle : Text → ℕ → Text
global_cycle file global = file ++ (codes ": global " ++ (decimal global ++ codes " has no value"))

abbrev pub too_many_memories : Text
too_many_memories = codes "more than one memory"

abbrev pub export_conflict : Text → Text
export_conflict name = codes "export " ++ (name ++ codes " stands twice")

abbrev pub not_json : Text → Text
not_json file = file ++ codes ": not JSON"

abbrev pub wrong_shape : Text → ℕ → Text
wrong_shape file entry = file ++ (codes ": entry " ++ (decimal entry ++ codes " has the wrong shape"))

abbrev pub node_twice : Text → Text → Text
node_twice file name = file ++ (codes ": node " ++ (name ++ codes " stands twice"))

abbrev pub unknown_node : Text → Text → Text
unknown_node file name = file ++ (codes ": no node " ++ name)

abbrev pub no_function : Text → Text
no_function name = codes "no function " ++ name

abbrev pub several_functions : Text → Text
several_functions name = codes "several functions " ++ name

abbrev pub kept_and_split : Text → Text
kept_and_split name = codes "function " ++ (name ++ codes " is kept and split")

abbrev pub namespace_taken : Text → ℕ → Text
namespace_taken file import = file ++ (codes ": import " ++ (decimal import ++ codes " uses the placeholder namespace"))

abbrev pub prefix_taken : Text → Text
prefix_taken name = codes "export " ++ (name ++ codes " is taken")

abbrev pub no_exported_function : Text → Text
no_exported_function name = codes "no exported function " ++ name

-- The text of a fault of a file. Running out of memory has none.
abbrev pub fault_text : Text → ReadFault → Option Text
fault_text file NotModule = Some (not_module file)
fault_text file (Malformed section) = Some (malformed file section)
fault_text file (MalformedBody func) = Some (malformed_body file func)
fault_text file (Unsupported section None) = Some (unsupported file section)
fault_text file (Unsupported section (Some func)) = Some (unsupported_body file func)
fault_text file (Limit which) = Some (over_limit file which)
fault_text file NoMemory = None

-- The name of a kind of items, followed by a space.
abbrev pub kind_text : ItemKind → Text
kind_text kind.Import = codes "import "
kind_text kind.Memories = codes "memories "
kind_text kind.Func = codes "func "
kind_text kind.Table = codes "table "
kind_text kind.Memory = codes "memory "
kind_text kind.Global = codes "global "
kind_text kind.Export = codes "export "
kind_text kind.Start = codes "start "
kind_text kind.Elem = codes "elem "
kind_text kind.Segment = codes "data "
kind_text kind.Body = codes "body "

-- The text of the first invalid item of a file's module.
abbrev pub invalid_text : Text → Invalid → Text
invalid_text file item = file ++ (codes ": invalid " ++ (kind_text item.kind ++ decimal item.index))

-- The text of a fault of linking parts that come from these files. Running out of memory has none.
abbrev pub link_text : List Text → LinkFault → Option Text
link_text files (ImportMismatch part import) = option_map (λ file. import_mismatch file import) (slice_get files part)
link_text files (ImportCycle part import) = option_map (λ file. import_cycle file import) (slice_get files part)
link_text files (LimitsClash part import) = option_map (λ file. limits_clash file import) (slice_get files part)
link_text files TooManyMemories = Some too_many_memories
link_text files (GlobalCycle part global) = option_map (λ file. global_cycle file global) (slice_get files part)
link_text files link.NoMemory = None

-- The text of a fault of joining parts.
abbrev pub join_text : JoinFault → Option Text
join_text (ExportConflict name) = Some (export_conflict name)
join_text (TooMany which) = Some (too_many which)
join_text join.NoMemory = None

-- The text of a fault of a graph file.
abbrev pub graph_text : Text → GraphFault → Option Text
graph_text file graph.GraphText = Some (not_json file)
graph_text file (graph.GraphShape entry) = Some (wrong_shape file entry)
graph_text file (graph.NodeTwice name) = Some (node_twice file name)
graph_text file (graph.UnknownNode name) = Some (unknown_node file name)
graph_text file graph.NoMemory = None

-- The text of a fault of sweeping.
abbrev pub sweep_text : SweepFault → Option Text
sweep_text (sweep.TooMany which) = Some (too_many which)
sweep_text sweep.NoMemory = None

-- The text of a fault of the names that a split lists.
abbrev pub plan_text : PlanFault → Option Text
plan_text (plan.NoSuchFunction name) = Some (no_function name)
plan_text (plan.AmbiguousFunction name) = Some (several_functions name)
plan_text (plan.KeptAndSplit name) = Some (kept_and_split name)
plan_text plan.NoMemory = None

-- The text of a fault of splitting the module of this file.
abbrev pub split_text : Text → SplitFault → Option Text
split_text file (split.NamespaceTaken import) = Some (namespace_taken file import)
split_text file (split.PrefixTaken name) = Some (prefix_taken name)
split_text file (split.TooMany which) = Some (too_many which)
split_text file split.NoMemory = None

-- The text of a fault of an evaluation.
abbrev pub eval_text : EvalFault → Option Text
eval_text (eval.NoSuchExport name) = Some (no_exported_function name)
eval_text (eval.TooMany which) = Some (too_many which)
eval_text eval.NoMemory = None
