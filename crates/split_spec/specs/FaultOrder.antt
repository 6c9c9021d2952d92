-- Why a module is not split: the first fault, in the order in which faults are reported.
use Rattle.std.specs.Prelude.{ℕ, Bool, List, map, length, sum, Option, None, find, option_map}
use Rattle.std.specs.List.{list_any}
use Rattle.std.specs.Option.{option_or}
use Rattle.std.specs.Str.{bytes_eq}
use Rattle.base_lists.specs.Places.{first_place}
use Rattle.wasm_tree_spec.specs.Prelude.{Which, Trampolines, Module}
use Rattle.module_limits.specs.Counts.{or_above, over_limit}
use Rattle.split_spec.specs.declared.names.SplitNames.{SplitNames}
use Rattle.split_spec.specs.declared.faults.SplitFault.{SplitFault}
use Rattle.split_spec.specs.declared.faults.SplitFault.TheVariants.{NamespaceTaken, PrefixTaken, TooMany}
use Rattle.split_spec.specs.SplitSlots.{params_of}
use Rattle.split_spec.specs.Primary.{added_exports, primary}
use Rattle.split_spec.specs.Secondary.{secondary}

-- the place of the first import from this namespace
abbrev pub namespace_taken : (namespace : List ℕ) → Module → Option ℕ
namespace_taken namespace m = first_place (λ i. bytes_eq i.«module» namespace) m.imports 0

-- the first of these names that an export has
abbrev pub name_taken : Module → List (List ℕ) → Option (List ℕ)
name_taken m names = find (λ name. list_any (λ e. bytes_eq e.name name) m.exports) names

-- the first name of an added export that an export of the module has
abbrev pub prefix_taken : (prefix : List ℕ) → Module → (moved : List ℕ) → Option (List ℕ)
prefix_taken prefix m moved = name_taken m (map (λ e. e.name) (added_exports prefix m moved))

-- the number of parameters of all moved functions together
abbrev pub moved_params : Module → (moved : List ℕ) → ℕ
moved_params m moved = sum (map (λ func. length (params_of m func)) moved)

-- the first quantity above its limit: the parameters of the moved functions, then the counts of the
-- primary module, then those of the secondary module
abbrev pub too_many : SplitNames → Module → (moved : List ℕ) → Option Which
too_many names m moved = or_above (moved_params m moved) Trampolines (option_or (over_limit (primary names m moved)) (over_limit (secondary names m moved)))

-- the first fault of a split
abbrev pub split_fault : SplitNames → Module → (moved : List ℕ) → Option SplitFault
split_fault names m moved =
    option_or (option_map NamespaceTaken (namespace_taken names.placeholder_namespace m))
    (option_or (option_map PrefixTaken (prefix_taken names.export_prefix m moved))
    (option_map TooMany (too_many names m moved)))
