-- The lines that report an evaluation of constructors.
use Rattle.std.specs.Prelude.{ℕ, List, [], ◌++◌, flat_map, take, Option, Some, None, slice_get, codes}
use Rattle.wasm_tree_spec.specs.Prelude.{Module}
use Rattle.eval_spec.specs.declared.stop.Stop.{Stop}
use Rattle.eval_snapshot_spec.specs.Evaluated.{evaluated_count}
use Rattle.tools_cli_spec.specs.declared.evaluation.Ending.{Ending}
use Rattle.tools_cli_spec.specs.declared.evaluation.Ending.TheVariants.{Complete, Instantiation, Constructor}
use Rattle.tools_cli_spec.specs.Endings.{ending_of}
use Rattle.tools_cli_words.specs.Arguments.{Text}
use Rattle.eval_spec.specs.declared.stop.Stop.TheVariants as stop

-- The name of what stops an evaluation.
abbrev pub stop_name : Stop → Text
stop_name stop.Import = codes "import"
stop_name stop.Grow = codes "grow"
stop_name stop.TableWrite = codes "table write"
stop_name stop.Unknown = codes "unknown"
stop_name stop.Trap = codes "trap"
stop_name stop.Signature = codes "signature"
stop_name stop.Steps = codes "steps"
stop_name stop.Depth = codes "depth"
stop_name stop.Memory = codes "memory"

-- The line that reports an evaluated constructor, and the lines for several.
abbrev pub evaluated_line : Text → Text
evaluated_line name = codes "evaluated " ++ (name ++ codes "\n")

abbrev pub evaluated_lines : List Text → Text
evaluated_lines names = flat_map evaluated_line names

-- The line that reports what stopped the constructor `name`.
abbrev pub constructor_line : Stop → Text → Text
constructor_line stop name = codes "stopped at " ++ (name ++ (codes ": " ++ (stop_name stop ++ codes "\n")))

-- The line that reports what stopped the instantiation or the start.
abbrev pub instantiation_line : Stop → Text
instantiation_line stop = codes "instantiation stopped: " ++ (stop_name stop ++ codes "\n")

-- The line that reports an ending; none if all constructors were evaluated. `next` is the name of
-- the first constructor that was not evaluated.
abbrev pub ending_line : Ending → (next : Option Text) → Text
ending_line Complete next = []
ending_line (Instantiation stop) next = instantiation_line stop
ending_line (Constructor stop) (Some name) = constructor_line stop name
ending_line (Constructor stop) None = []

-- The lines of an evaluation of `names` whose first `count` constructors were evaluated: one for
-- each of these, in order, and then that of the ending.
abbrev pub lines_after : (names : List Text) → (count : ℕ) → Ending → Text
lines_after names count ending = evaluated_lines (take count names) ++ ending_line ending (slice_get names count)

-- The lines of the evaluation of these constructors of a module.
abbrev pub evaluation_lines : Module → (names : List Text) → Text
evaluation_lines m names = lines_after names (evaluated_count m names) (ending_of m names)
