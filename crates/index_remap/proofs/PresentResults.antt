-- The functions from which the types of instructions are computed keep a result that is present.
use Rattle.base_lists.proofs.Common.{◌≡◌, Bool, true, false, [], ◌∷◌, Option, Some, None, refl, ap, ◌∙◌, option_and_then}
use Rattle.wasm_tree_spec.specs.Prelude.{RefType, Ref, FuncType}
use Rattle.wasm_tree.specs.declared.types.RefType.TheVariants.{Func}
use Rattle.wasm_valid_bodies.specs.Typing.{Gives, signature_in, only, both}
use Rattle.index_remap.specs.Prelude.{Keeps}

pub keeps_signature : (m n : Option FuncType) → Keeps m n → Keeps (signature_in m) (signature_in n)
keeps_signature None n k y h = cc
keeps_signature (Some x) n k y h = ap signature_in (k x refl) ∙ h

pub both_keeps : (m m' n n' : Option RefType) → Keeps m m' → Keeps n n' → both m n ≡ true → both m' n' ≡ true
both_keeps None m' n n' s t h = cc
both_keeps (Some a) m' None n' s t h = cc
both_keeps (Some a) m' (Some b) n' s t h = ap (λ z. both z n') (s a refl) ∙ ap (both (Some a)) (t b refl) ∙ h

pub named_keeps : (m n : Option Bool) → (m ≡ Some true → n ≡ Some true) → Keeps (option_and_then (λ b. only b (Some (Gives [] (Ref Func ∷ [])))) m) (option_and_then (λ b. only b (Some (Gives [] (Ref Func ∷ [])))) n)
named_keeps None n k y h = cc
named_keeps (Some false) n k y h = cc
named_keeps (Some true) n k y h = ap (λ z. option_and_then (λ b. only b (Some (Gives [] (Ref Func ∷ [])))) z) (k refl) ∙ h

pub then_is : {A B : Type 0} (x : Option A) (f : A → Option B) → option_and_then f x ≡ option_and_then f x
then_is None f = refl
then_is (Some x) f = refl
