-- The start functions of parts.
use Rattle.std.specs.Prelude.{◌≡◌, ℕ, true, List, Option, Some, None, slice_get}
use Rattle.wasm_tree_spec.specs.Prelude.{type_of_func}
use Rattle.wasm_valid.specs.Prelude.{IsValid}
use Rattle.wasm_meaning.specs.Prelude.{Text, Part}
use Rattle.merge_spec.specs.Prelude.{link_fault, merged, merged_types, place_of_type, nullary, starts}
use Rattle.merge_proof.specs.Joinable.{EachPart}

-- in the merged module each start function takes and returns nothing, and the module has this type
abbrev pub StartsTakeNothing : Type 0
StartsTakeNothing =
    (parts : List Part) (names : List (Option Text)) → EachPart IsValid parts → link_fault parts true ≡ None → (n f : ℕ) → slice_get (starts parts) n ≡ Some f →
    (type_of_func (merged parts names) f ≡ Some nullary) × (slice_get (merged_types parts) (place_of_type parts nullary) ≡ Some nullary)
