-- What a sweep gives: the swept module, or why there is none.
use Rattle.std.specs.Prelude.{◌≡◌, Option, Some, None, Result, Ok, Err}
use Rattle.wasm_tree_spec.specs.Prelude.{Which, Module}
use Rattle.module_limits.specs.Counts.{over_limit}
use Rattle.dce_spec.specs.Marks.{Marks}
use Rattle.dce_spec.specs.Swept.{swept}
use Rattle.dce_sweep.specs.declared.faults.SweepFault.{SweepFault}
use Rattle.dce_sweep.specs.declared.faults.SweepFault.TheVariants.{TooMany}

abbrev pub outcome : Option Which → Module → Result Module SweepFault
outcome (Some which) m = Err (TooMany which)
outcome None m = Ok m

-- what a sweep gives unless memory runs out
abbrev pub sweep_of : Marks → Module → Result Module SweepFault
sweep_of k m = outcome (over_limit (swept k m)) (swept k m)

-- a sweep of the module by these marks gives the result
abbrev pub Sweeps : Marks → Module → Result Module SweepFault → Type 0
Sweeps k m result = sweep_of k m ≡ result
