-- The table of names, and marks of functions.
use Rattle.std.specs.Prelude.{◌≡◌, ℕ, ◌<◌, ◌==◌, List, [], ◌∷◌, Bool, true, false, not, unwrap_or, Option, Some, None, option_map, slice_get, length}
use Rattle.std.specs.Option.{option_map_or}
use Rattle.std.specs.List.{list_any}
use Rattle.std.specs.HashMap.{HashMap, get_by}
use Rattle.std.specs.Str.{bytes_eq}
use Rattle.std.specs.Borrow.{Bor}
use Rattle.wasm_tree_spec.specs.Prelude.{Module}
use Rattle.wasm_names.specs.declared.func_name.FuncName.{FuncName}
use Rattle.split_plan.specs.declared.fault.PlanFault.{PlanFault}
use Rattle.split_plan.specs.declared.fault.PlanFault.TheVariants.{NoSuchFunction, AmbiguousFunction}
use Rattle.split_plan.specs.declared.named.Named.{Named}
use Rattle.split_plan.specs.declared.named.Named.TheVariants.{InNameList, Shared, Exported}
use Rattle.split_plan.specs.NamedFunctions.{entries_with_name, exported_among}

-- the entry of a word, from the functions with this name and the one that is exported under it
abbrev pub entered : List ℕ → Option ℕ → Option Named
entered [] exported = option_map Exported exported
entered (func ∷ []) exported = Some (InNameList func)
entered (func ∷ other ∷ more) exported = Some Shared

-- the new entry of a word, after the name list gives it to one more defined function
abbrev pub once_more : ℕ → Option Named → Option Named
once_more func None = Some (InNameList func)
once_more func (Some (Exported other)) = Some (InNameList func)
once_more func (Some (InNameList other)) = Some Shared
once_more func (Some Shared) = Some Shared

-- the entry that a word has by a module and its name list
abbrev pub entry_of : Module → List FuncName → List ℕ → Option Named
entry_of m names word = entered (entries_with_name m names word) (exported_among m m.exports word)

-- the entry of a word in a table
abbrev pub held_of : {S : Type 0} → HashMap (Bor (List ℕ)) Named S → List ℕ → Option Named
held_of table word = get_by (λ k. bytes_eq word k.now) table

-- the function in an entry
abbrev pub func_in : Option Named → Option ℕ
func_in (Some (InNameList func)) = Some func
func_in (Some Shared) = None
func_in (Some (Exported func)) = Some func
func_in None = None

-- why a word with this entry names no function
abbrev pub fault_in : Option Named → List ℕ → Option PlanFault
fault_in (Some (InNameList func)) word = None
fault_in (Some Shared) word = Some (AmbiguousFunction word)
fault_in (Some (Exported func)) word = None
fault_in None word = Some (NoSuchFunction word)

-- whether this function is in the entry of the word
abbrev pub enters_func : (List ℕ → Option Named) → ℕ → List ℕ → Bool
enters_func entry func word = option_map_or (λ named. named == func) (func_in (entry word)) false

-- A mark for each of `count` functions: whether one of the words names it.
pub record AreMarks (entry : List ℕ → Option Named) (words : List (List ℕ)) (count : ℕ) (marks : List Bool) : Type 0 where
  pub one_each : length marks ≡ count
  pub right : (func : ℕ) → func < count → slice_get marks func ≡ Some (list_any (enters_func entry func) words)

-- whether the mark of the function is this one
abbrev pub has_mark : List Bool → Bool → ℕ → Bool
has_mark marks true func = unwrap_or (slice_get marks func) false
has_mark marks false func = not (unwrap_or (slice_get marks func) false)

-- the function is marked as named in `split`, or, without `split`, not marked as named in `keep`
abbrev pub has_wanted_mark : Option (List (List ℕ)) → List Bool → List Bool → ℕ → Bool
has_wanted_mark (Some words) wanted kept = has_mark wanted true
has_wanted_mark None wanted kept = has_mark kept false
