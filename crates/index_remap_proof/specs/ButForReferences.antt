-- Trees that are valid, except that `ref.func` may name in a body functions that the tree does not
-- declare (WebAssembly Core 2.0, section 3.4.10).
use Rattle.std.specs.Prelude.{◌≡◌, ℕ, ◌<◌, true, [], length, replicate, Some, slice_get}
use Rattle.wasm_tree_spec.specs.Prelude.{FuncType, Func, Module}
use Rattle.wasm_valid_bodies.specs.Typing.{Context, WellTyped}
use Rattle.wasm_valid.specs.declared.kinds.ItemKind.{ItemKind}
use Rattle.wasm_valid.specs.declared.kinds.ItemKind.TheVariants as kind
use Rattle.wasm_valid.specs.Prelude.{HoldsAt, count_of, body_context}

-- The context in which `ref.func` may name each function of the index space.
abbrev pub any_named : Context → Context
any_named c = record c { named = replicate (length c.funcs) true }

-- The item is valid if `ref.func` may name each function of the index space.
abbrev pub HoldsButForReferences : Module → ItemKind → ℕ → Type 0
HoldsButForReferences m kind.Body i =
    (f : Func) × (t : FuncType) × (slice_get m.funcs i ≡ Some f) × (slice_get m.types f.ty ≡ Some t) × WellTyped (any_named (body_context m f t)) f.body [] t.results
HoldsButForReferences m k i = HoldsAt m k i

-- Each item is valid except for references; the number of memories is left aside.
abbrev pub IsValidButForReferences : Module → Type 0
IsValidButForReferences m = (k : ItemKind) (i : ℕ) → i < count_of m true k → HoldsButForReferences m k i
