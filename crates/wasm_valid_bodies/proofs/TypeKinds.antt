-- Value types by their kinds: one for each number type, and one for all reference types.
use Rattle.base_lists.proofs.Common.{◌≡◌, true, false, refl, min}
use Rattle.wasm_tree_spec.specs.Prelude.{RefType, ValType, I32, I64, Ref, same_type}
use Rattle.wasm_tree.specs.declared.types.RefType.TheVariants as reft
use Rattle.wasm_valid_bodies.specs.Tracking.{letter}

pub other_kinds : (a b : ValType) → (min (letter a) 2 ≡ min (letter b) 2 → ⊥) → same_type a b ≡ false
other_kinds I32 I32 h = absurd (h refl)
other_kinds I32 I64 h = refl
other_kinds I32 (Ref r) h = refl
other_kinds I64 I32 h = refl
other_kinds I64 I64 h = absurd (h refl)
other_kinds I64 (Ref r) h = refl
other_kinds (Ref r) I32 h = refl
other_kinds (Ref r) I64 h = refl
other_kinds (Ref reft.Func) (Ref reft.Func) h = absurd (h refl)
other_kinds (Ref reft.Func) (Ref reft.Extern) h = absurd (h refl)
other_kinds (Ref reft.Extern) (Ref reft.Func) h = absurd (h refl)
other_kinds (Ref reft.Extern) (Ref reft.Extern) h = absurd (h refl)

pub same_kinds : (a b : ValType) → min (letter a) 2 ≡ min (letter b) 2 → ((x y : RefType) → a ≡ Ref x → b ≡ Ref y → ⊥) → same_type a b ≡ true
same_kinds I32 I32 h k = refl
same_kinds I32 I64 h k = cc
same_kinds I32 (Ref reft.Func) h k = cc
same_kinds I32 (Ref reft.Extern) h k = cc
same_kinds I64 I32 h k = cc
same_kinds I64 I64 h k = refl
same_kinds I64 (Ref reft.Func) h k = cc
same_kinds I64 (Ref reft.Extern) h k = cc
same_kinds (Ref reft.Func) I32 h k = cc
same_kinds (Ref reft.Extern) I32 h k = cc
same_kinds (Ref reft.Func) I64 h k = cc
same_kinds (Ref reft.Extern) I64 h k = cc
same_kinds (Ref r) (Ref q) h k = absurd (k r q refl refl)
