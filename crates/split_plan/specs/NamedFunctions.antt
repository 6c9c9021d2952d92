-- The function that a word names. A word is a name in `split` or `keep`, and `names` is the name
-- list.
use Rattle.std.specs.Prelude.{ℕ, ◌==◌, ◌&&◌, List, [], ◌∷◌, length, map, filter, Bool, false, Option, Some, None, option_map, nat_le, nat_lt, find}
use Rattle.std.specs.Option.{option_map_or}
use Rattle.std.specs.Str.{bytes_eq}
use Rattle.wasm_tree_spec.specs.Prelude.{Functions, Export, Module, same_space, space_of_export, index_of_export, imported_funcs, funcs_of}
use Rattle.wasm_names.specs.declared.func_name.FuncName.{FuncName}
use Rattle.split_plan.specs.declared.fault.PlanFault.{PlanFault}
use Rattle.split_plan.specs.declared.fault.PlanFault.TheVariants.{NoSuchFunction, AmbiguousFunction}

-- the function exists and is not imported
abbrev pub is_defined : Module → ℕ → Bool
is_defined m func = nat_le (length (imported_funcs m.imports)) func && nat_lt func (length (funcs_of m))

-- the defined functions of the entries of the name list that have the word as name
abbrev pub entries_with_name : Module → List FuncName → List ℕ → List ℕ
entries_with_name m names word = map (λ n. n.index) (filter (λ n. bytes_eq n.name word && is_defined m n.index) names)

-- the export is of a function that the module defines
abbrev pub is_defined_export : Module → Export → Bool
is_defined_export m e = same_space (space_of_export e.desc) Functions && is_defined m (index_of_export e.desc)

-- the function of the first of these exports that has the word as its name and is of a defined
-- function
abbrev pub exported_among : Module → List Export → List ℕ → Option ℕ
exported_among m exports word = option_map (λ e. index_of_export e.desc) (find (λ e. bytes_eq e.name word && is_defined_export m e) exports)

-- the one function with this name; if there is none, the exported one; if there are several, none
abbrev pub one_of : List ℕ → Option ℕ → Option ℕ
one_of [] exported = exported
one_of (func ∷ []) exported = Some func
one_of (func ∷ other ∷ more) exported = None

-- the function that a word names
abbrev pub function_of : Module → List FuncName → List ℕ → Option ℕ
function_of m names word = one_of (entries_with_name m names word) (exported_among m m.exports word)

abbrev pub fault_of : List ℕ → Option ℕ → List ℕ → Option PlanFault
fault_of [] None word = Some (NoSuchFunction word)
fault_of [] (Some func) word = None
fault_of (func ∷ []) exported word = None
fault_of (func ∷ other ∷ more) exported word = Some (AmbiguousFunction word)

-- why the word names no function
abbrev pub word_fault : Module → List FuncName → List ℕ → Option PlanFault
word_fault m names word = fault_of (entries_with_name m names word) (exported_among m m.exports word) word

-- whether a word names this function
abbrev pub names_func : Module → List FuncName → ℕ → List ℕ → Bool
names_func m names func word = option_map_or (λ named. named == func) (function_of m names word) false
