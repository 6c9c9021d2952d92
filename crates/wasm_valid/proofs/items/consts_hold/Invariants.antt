use Rattle.base_lists.proofs.Common.{◌≡◌, ℕ, ◌<◌, Some, slice_get}
use Rattle.wasm_tree_spec.specs.Prelude.{ConstExpr, Ref}
use Rattle.wasm_valid.specs.Prelude.{const_type}
use Rattle.wasm_valid.proofs.items.consts_hold.Given as goal

abbrev pub invariant-loop-item : goal.invariant-loop-item
invariant-loop-item l = (j : ℕ) (e : ConstExpr) → j < l.item-index → slice_get l.items j ≡ Some e → const_type l.spaces.module.now e ≡ Some (Ref l.ty)
