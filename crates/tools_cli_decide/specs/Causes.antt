-- Why a decision is a refusal, and what is known of the inputs.
use Rattle.std.specs.Prelude.{◌≡◌, ◌⊎◌, ℕ, ◌+◌, ◌≤◌, List, [], ◌∷◌, length, Some, None, Err}
use Rattle.tools_cli_spec.specs.CommandLine.{Text, MergeTask, SplitTask, CtorEvalTask, Merge, source_files, many_of}
use Rattle.tools_cli_spec.specs.Job.{words_fault}
use Rattle.tools_cli_spec.specs.Texts.{link_text, join_text, graph_text, sweep_text, plan_text, split_text, eval_text}
use Rattle.wasm_meaning.specs.Prelude.{Part}
use Rattle.merge_spec.specs.declared.faults.LinkFault.{LinkFault}
use Rattle.merge_spec.specs.declared.faults.JoinFault.{JoinFault}
use Rattle.merge_spec.specs.Prelude.{link_fault, Joins}
use Rattle.dce_graph.specs.declared.fault.GraphFault.{GraphFault}
use Rattle.dce_graph.specs.Prelude.{graph_result}
use Rattle.dce_spec.specs.Marks.{Marks}
use Rattle.dce_sweep.specs.declared.faults.SweepFault.{SweepFault}
use Rattle.dce_sweep.specs.Sweeps.{Sweeps}
use Rattle.wasm_names.specs.declared.func_name.FuncName.{FuncName}
use Rattle.split_plan.specs.declared.fault.PlanFault.{PlanFault}
use Rattle.split_spec.specs.declared.faults.SplitFault.{SplitFault}
use Rattle.split_spec.specs.Prelude.{split_fault}
use Rattle.tools_cli_spec.specs.declared.evaluation.EvalFault.{EvalFault}
use Rattle.tools_cli_spec.specs.Endings.{fault_of}
use Rattle.wasm_tree_spec.specs.Prelude.{Module, Imports, limit}
use Rattle.wasm_tree.specs.declared.which.Which.TheVariants.{Types, Functions, Tables, Memories, Globals, ElementSegments, DataSegments}
use Rattle.tools_cli_spec.specs.Effects.{NamedFile}
use Rattle.tools_cli_decide.specs.Refusals.{refusal_text}
use Rattle.tools_cli_decide.specs.declared.stop.Stop.{Stop}
use Rattle.tools_cli_decide.specs.declared.stop.Stop.TheVariants.{Refused, NoMemory}

-- The number of bytes of all these files together.
abbrev pub total : List NamedFile → ℕ
total [] = 0
total (e ∷ es) = length e.1 + total es

-- The work stops with a refusal whose text satisfies `IsText`, or because memory ran out.
abbrev pub StopsWith : (Text → Type 0) → Stop → Type 0
StopsWith IsText (Refused refusal) = IsText (refusal_text refusal)
StopsWith IsText NoMemory = Unit {0}
StopsWith IsText _ = ⊥

-- The text reports why these parts do not link or, if they link, why they cannot be joined.
abbrev pub MergeFails : MergeTask → List Part → Text → Type 0
MergeFails merge parts text =
    ((fault : LinkFault) × (link_fault parts (many_of (Merge merge)) ≡ Some fault) × (link_text (source_files merge) fault ≡ Some text))
    ⊎ ((fault : JoinFault) × (link_fault parts (many_of (Merge merge)) ≡ None) × Joins parts merge.mode (Err fault) × (join_text fault ≡ Some text))

-- `says` reports why `text`, the contents of this file, is not a graph file.
abbrev pub GraphFails : Text → Text → Text → Type 0
GraphFails file text says = (fault : GraphFault) × (graph_result text ≡ Err fault) × (graph_text file fault ≡ Some says)

-- `says` reports why sweeping the module by these marks is refused.
abbrev pub SweepFails : Marks → Module → Text → Type 0
SweepFails marks tree says = (fault : SweepFault) × Sweeps marks tree (Err fault) × (sweep_text fault ≡ Some says)

-- `says` reports the first fault of the names that the split lists, in a module whose functions
-- have the names `names`.
abbrev pub PlanFails : SplitTask → Module → List FuncName → Text → Type 0
PlanFails split tree names says = (fault : PlanFault) × (words_fault split tree names ≡ Some fault) × (plan_text fault ≡ Some says)

-- `says` reports why the module cannot be split so that the functions `moved` move.
abbrev pub SplitFails : SplitTask → Module → (moved : List ℕ) → Text → Type 0
SplitFails split tree moved says = (fault : SplitFault) × (split_fault split.names tree moved ≡ Some fault) × (split_text split.file fault ≡ Some says)

-- `says` reports why the constructors of this module are not evaluated.
abbrev pub EvalFails : CtorEvalTask → Module → Text → Type 0
EvalFails eval tree says = (fault : EvalFault) × (fault_of tree eval.ctors eval.kept ≡ Some fault) × (eval_text fault ≡ Some says)

-- None of these lists of the module has more entries than its limit. (Exports are not among them.)
pub record IsWithinLimits (m : Module) : Type 0 where
  pub types : length m.types ≤ limit Types
  pub imports : length m.imports ≤ limit Imports
  pub funcs : length m.funcs ≤ limit Functions
  pub tables : length m.tables ≤ limit Tables
  pub mems : length m.mems ≤ limit Memories
  pub globals : length m.globals ≤ limit Globals
  pub elems : length m.elems ≤ limit ElementSegments
  pub datas : length m.datas ≤ limit DataSegments
