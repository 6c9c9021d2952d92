-- What is read through the imported globals of a part, and which constant expressions have a type
-- in a part.
use Rattle.std.specs.Prelude.{◌≡◌, ℕ, List, map, Option, Some}
use Rattle.wasm_tree_spec.specs.Prelude.{Globals, ValType, ConstExpr, Module}
use Rattle.wasm_valid.specs.Prelude.{const_type}
use Rattle.wasm_meaning.specs.Prelude.{Part, module_at, imports_of}
use Rattle.merge_spec.specs.declared.links.Read.{Read}
use Rattle.merge_spec.specs.Prelude.{read_at}
use Rattle.merge_join.specs.LinkedParts.{site}

-- `reads` has what is read through each imported global of the part
abbrev pub AreReads : List Part → ℕ → List (Option Read) → Type 0
AreReads ps p reads = (m : Module) → module_at ps p ≡ Some m → reads ≡ map (λ n. read_at ps (site p n)) (imports_of Globals m)

-- the expression has a type in the module of the part
abbrev pub HasType : List Part → ℕ → ConstExpr → Type 0
HasType ps p expr = (m : Module) × (ty : ValType) × (module_at ps p ≡ Some m) × (const_type m expr ≡ Some ty)
