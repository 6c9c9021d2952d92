-- What joining parts gives: the merged module with its references declared, or why there is none.
use Rattle.std.specs.Prelude.{◌≡◌, ℕ, ◌+◌, ◌<◌, ◌^◌, List, length, Option, Some, None, cond, nat_lt, Result, Ok, Err, slice_get}
use Rattle.wasm_tree_spec.specs.Prelude.{Types, Functions, Tables, Memories, Globals, ElementSegments, DataSegments, Space, Which, Module}
use Rattle.base_lists.specs.Options.{◌>>=◌}
use Rattle.wasm_meaning.specs.Prelude.{Text, defined_before, Part, sites}
use Rattle.base_lists.specs.Places.{count_of}
use Rattle.index_remap.specs.Prelude.{declared}
use Rattle.module_limits.specs.Counts.{over_limit}
use Rattle.merge_names.specs.declared.mode.Mode.{Mode}
use Rattle.merge_names.specs.Names.{new_names, conflict}
use Rattle.merge_spec.specs.Merged.{merged, export_names, imports_kind}
use Rattle.merge_spec.specs.declared.faults.JoinFault.{JoinFault}
use Rattle.merge_spec.specs.declared.faults.JoinFault.TheVariants.{ExportConflict, TooMany}

-- the merged module, with its references declared and the names that the mode gives its exports
unfoldable pub joined_module : List Part → Mode → Module
joined_module parts mode = declared (merged parts (new_names mode (export_names parts)))

-- the first name that repeats an earlier one, if the mode allows none
unfoldable pub repeated_name : List Part → Mode → Option Text
repeated_name parts mode = conflict mode (export_names parts) >>= (slice_get (export_names parts))

abbrev pub outcome : Option Text → Option Which → Module → Result Module JoinFault
outcome (Some name) which m = Err (ExportConflict name)
outcome None (Some which) m = Err (TooMany which)
outcome None None m = Ok m

-- what joining gives unless memory runs out; a repeated name is reported before a count that is too
-- great
abbrev pub join_of : List Part → Mode → Result Module JoinFault
join_of parts mode = outcome (repeated_name parts mode) (over_limit (joined_module parts mode)) (joined_module parts mode)

-- joining the parts with this mode gives the result
abbrev pub Joins : List Part → Mode → Result Module JoinFault → Type 0
Joins parts mode result = join_of parts mode ≡ result

-- how many entries joining adds at most to those of the parts: a function that calls their starts
abbrev pub most_added : Space → ℕ
most_added Types = 0
most_added Functions = 1
most_added Tables = 0
most_added Memories = 0
most_added Globals = 0
most_added ElementSegments = 0
most_added DataSegments = 0

-- A u32 can number the parts, and in each index space all that the parts import and define and
-- joining adds.
pub record FewInAll (parts : List Part) : Type 0 where
  pub parts_few : length parts < 2 ^ 32
  pub entries : (k : Space) → count_of (imports_kind parts k) (sites parts) + (defined_before k parts (length parts) + most_added k) < 2 ^ 32
