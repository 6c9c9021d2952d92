-- The module that the evaluation of constructors, which are named by exports, makes of a module.
use Rattle.std.specs.Prelude.{ℕ, List, [], ◌∷◌, take, cond, Option, Some, None, is_some}
use Rattle.std.specs.List.{filter_map}
use Rattle.base_lists.specs.Options.{◌>>=◌}
use Rattle.wasm_tree_spec.specs.Prelude.{ExportDesc, Module}
use Rattle.wasm_tree.specs.declared.module.ExportDesc.TheVariants as ex
use Rattle.wasm_meaning.specs.Prelude.{Text, export_named}
use Rattle.eval_spec.specs.Prelude.{State, done_count, state_at_end}
use Rattle.eval_snapshot_spec.specs.Snapshot.{snapshot}

abbrev pub func_exported : ExportDesc → Option ℕ
func_exported (ex.Func func) = Some func
func_exported _ = None

-- The function that the module exports under this name, if it does.
abbrev pub func_named : Module → Text → Option ℕ
func_named m name = export_named m.exports name >>= func_exported

-- The first name that is not that of an exported function.
abbrev pub first_missing : Module → List Text → Option Text
first_missing m [] = None
first_missing m (name ∷ names) = cond (is_some (func_named m name)) (first_missing m names) (Some name)

-- The functions with these names.
abbrev pub funcs_named : Module → List Text → List ℕ
funcs_named m names = filter_map (func_named m) names

-- How many of the constructors are evaluated: they are called in order, until something stops one.
-- This is meant for lists in which `first_missing` finds no name; others are refused.
abbrev pub evaluated_count : Module → List Text → ℕ
evaluated_count m names = done_count m (funcs_named m names)

-- The snapshot in this state, or `m` if there is none.
abbrev pub tree_in : Module → (evaluated kept : List Text) → Option State → Module
tree_in m evaluated kept (Some s) = snapshot m s evaluated kept
tree_in m evaluated kept None = m

-- The module after the evaluation: its snapshot in the state that the evaluated constructors left,
-- which is `m` itself if none was evaluated. This too is meant for lists without a missing name.
abbrev pub evaluated_tree : Module → (constructors kept : List Text) → Module
evaluated_tree m names kept = tree_in m (take (evaluated_count m names) names) kept (state_at_end m (funcs_named m names))
