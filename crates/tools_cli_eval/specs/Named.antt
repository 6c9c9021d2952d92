-- Exports by their names, and functions of a module.
use Rattle.std.specs.Prelude.{◌≡◌, ℕ, ◌<◌, List, length, Option, Some, slice_get}
use Rattle.std.specs.BTreeMap.{BTreeMap, get_by}
use Rattle.std.specs.Ordering.{nat_cmp}
use Rattle.std.specs.Cmp.Lexicographic.{slice_cmp}
use Rattle.std.specs.Borrow.{Bor}
use Rattle.base_lists.specs.Options.{◌>>=◌}
use Rattle.wasm_tree_spec.specs.Prelude.{Export, ExportDesc, Module, funcs_of}
use Rattle.wasm_meaning.specs.Prelude.{Text, export_named}
use Rattle.eval_snapshot_spec.specs.Evaluated.{func_exported}

-- The table has what is exported under each name.
abbrev pub HasExports : List Export → BTreeMap (Bor Text) ExportDesc → Type 0
HasExports exports table = (name : Text) → get_by (λ k. slice_cmp nat_cmp name k.now) table ≡ export_named exports name

-- The function that is exported under a name, if one is.
abbrev pub func_under : List Export → Text → Option ℕ
func_under exports name = export_named exports name >>= func_exported

-- Each of these is a function of the module, imported or defined.
abbrev pub AreFuncsOf : Module → List ℕ → Type 0
AreFuncsOf m funcs = (n func : ℕ) → slice_get funcs n ≡ Some func → func < length (funcs_of m)
