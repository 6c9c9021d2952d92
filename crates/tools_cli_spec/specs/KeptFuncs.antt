-- The lines that report functions which were to move and are kept.
use Rattle.std.specs.Prelude.{ℕ, Bool, ◌==◌, ◌&&◌, List, ◌++◌, flat_map, find, Option, option_map, unwrap_or, codes, decimal}
use Rattle.std.specs.Option.{option_or}
use Rattle.wasm_tree_spec.specs.Prelude.{Functions, Export, Module, same_space, space_of_export, index_of_export}
use Rattle.wasm_names.specs.declared.func_name.FuncName.{FuncName}
use Rattle.tools_cli_words.specs.Arguments.{Text}

-- The first name that a name list gives to the function.
abbrev pub listed_name : List FuncName → (func : ℕ) → Option Text
listed_name names func = option_map (λ n. n.name) (find (λ n. n.index == func) names)

abbrev pub is_export_of : (func : ℕ) → Export → Bool
is_export_of func e = same_space (space_of_export e.desc) Functions && (index_of_export e.desc == func)

-- The name of the first of these exports that is of the function.
abbrev pub exported_name : List Export → (func : ℕ) → Option Text
exported_name exports func = option_map (λ e. e.name) (find (is_export_of func) exports)

-- The name by which a function is reported, if it has one: that of the name list or, if it has none
-- there, that of an export.
abbrev pub told_name : List Export → List FuncName → (func : ℕ) → Option Text
told_name exports names func = option_or (listed_name names func) (exported_name exports func)

-- The line that reports a function, by its name; then the same with its index in decimal if it has
-- no name.
abbrev pub kept_line : Text → Text
kept_line name = codes "kept " ++ (name ++ codes ": uses a segment\n")

abbrev pub line_of_func : (func : ℕ) → Option Text → Text
line_of_func func name = kept_line (unwrap_or name (decimal func))

-- The lines that report these functions of a module, in order.
abbrev pub kept_lines : Module → List FuncName → (kept : List ℕ) → Text
kept_lines m names kept = flat_map (λ func. line_of_func func (told_name m.exports names func)) kept
