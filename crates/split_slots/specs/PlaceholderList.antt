-- Imports of placeholders, from the type indices of functions.
use Rattle.std.specs.Prelude.{ℕ, suc, List, [], ◌∷◌, decimal, slice_index}
use Rattle.wasm_tree_spec.specs.Prelude.{Import}
use Rattle.wasm_tree.specs.declared.module.ImportDesc.TheVariants as im

abbrev pub placeholder_of : (namespace types : List ℕ) → (slot func : ℕ) → Import
placeholder_of namespace types slot func = record { «module» = namespace; field = decimal slot; desc = im.Func (slice_index types func) }

-- one for each of these functions, from this slot on
abbrev pub placeholders_of : (namespace types : List ℕ) → (slot : ℕ) → List ℕ → List Import
placeholders_of namespace types slot [] = []
placeholders_of namespace types slot (func ∷ funcs) = placeholder_of namespace types slot func ∷ placeholders_of namespace types (suc slot) funcs
