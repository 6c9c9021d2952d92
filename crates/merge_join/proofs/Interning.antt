-- Types that are added unless they are in the list already, looked up by their texts.
use Rattle.base_lists.proofs.Common.{◌≡◌, ◌∙◌, sym, ap, refl, inl, inr, ℕ, suc, ◌+◌, List, [], ◌∷◌, ◌++◌, length, arith, ◌≤◌, Bool, true, false, cond, is_some, Option, Some, None, ◌||◌, list_any, bytes_eq, cases_Bool, length_push, bytes_eq-Decides}
use Rattle.wasm_tree_spec.specs.Prelude.{FuncType, same_func_type}
use Rattle.wasm_meaning.specs.Prelude.{first_place}
use Rattle.merge_spec.specs.Prelude.{with_type, with_types}
use Rattle.merge_join.specs.Texts.{text_of_type}
use Rattle.merge_join.proofs.TypeTexts.{same_by_text}

pub place_congr : {A : Type 0} (f g : A → Bool) (xs : List A) (n : ℕ) → ((x : A) → f x ≡ g x) → first_place f xs n ≡ first_place g xs n
place_congr f g [] n h = refl
place_congr f g (x ∷ xs) n h = ap (λ (b : Bool). cond b (Some n) (first_place f xs (suc n))) (h x) ∙ ap (cond (g x) (Some n)) (place_congr f g xs (suc n) h)

abbrev pub or_other : Option ℕ → Option ℕ → Option ℕ
or_other None b = b
or_other (Some a) b = Some a

pub place_push : {A : Type 0} (is : A → Bool) (xs : List A) (y : A) (n : ℕ) → first_place is (xs ++ y ∷ []) n ≡ or_other (first_place is xs n) (cond (is y) (Some (n + length xs)) None)
place_push is [] y n = let e : n ≡ n + 0 = omega arith in ap (λ k. cond (is y) (Some k) None) e
place_push is (x ∷ xs) y n = let e : suc n + length xs ≡ n + suc (length xs) = omega arith in
    ap (cond (is x) (Some n)) (place_push is xs y (suc n) ∙ ap (λ k. or_other (first_place is xs (suc n)) (cond (is y) (Some k) None)) e) ∙ case n (is x) (first_place is xs (suc n)) (cond (is y) (Some (n + suc (length xs))) None)
  where
    case : (n : ℕ) (b : Bool) (o r : Option ℕ) → cond b (Some n) (or_other o r) ≡ or_other (cond b (Some n) o) r
    case n true o r = refl
    case n false o r = refl

pub any_is : {A : Type 0} (is : A → Bool) (xs : List A) (n : ℕ) → list_any is xs ≡ is_some (first_place is xs n)
any_is is [] n = refl
any_is is (x ∷ xs) n = ap (λ (b : Bool). is x || b) (any_is is xs (suc n)) ∙ case n (is x) (first_place is xs (suc n))
  where
    case : (n : ℕ) (b : Bool) (o : Option ℕ) → (b || is_some o) ≡ is_some (cond b (Some n) o)
    case n true o = refl
    case n false o = refl

abbrev pub has_text : List ℕ → FuncType → Bool
has_text q t = bytes_eq q (text_of_type t)

-- The place of a type is that of its text.
pub place_by_text : (ty : FuncType) (types : List FuncType) → first_place (has_text (text_of_type ty)) types 0 ≡ first_place (same_func_type ty) types 0
place_by_text ty types = place_congr (has_text (text_of_type ty)) (same_func_type ty) types 0 (λ t. sym (same_by_text ty t))

none_from : (o : Option ℕ) → is_some o ≡ false → o ≡ None
none_from None e = refl
none_from (Some a) e = cc

equal_swap : (x y : List ℕ) → bytes_eq x y ≡ bytes_eq y x
equal_swap x y = tests (bytes_eq x y) (bytes_eq y x)
    (λ e. (bytes_eq-Decides y x).1 (sym ((bytes_eq-Decides x y).0 e)))
    (λ e. (bytes_eq-Decides x y).1 (sym ((bytes_eq-Decides y x).0 e)))
  where
    tests : (a b : Bool) → (a ≡ true → b ≡ true) → (b ≡ true → a ≡ true) → a ≡ b
    tests false false f g = refl
    tests false true f g = g refl
    tests true false f g = sym (f refl)
    tests true true f g = refl

-- A type that is in the list already adds nothing.
pub known_type : (types : List FuncType) (ty : FuncType) → is_some (first_place (has_text (text_of_type ty)) types 0) ≡ true → types ≡ with_type types ty
known_type types ty h =
    let there : list_any (same_func_type ty) types ≡ true = any_is (same_func_type ty) types 0 ∙ ap is_some (sym (place_by_text ty types)) ∙ h in
    sym (ap (λ (b : Bool). cond b types (types ++ ty ∷ [])) there)

-- A type that is not in the list is appended.
pub new_type : (types : List FuncType) (ty : FuncType) → is_some (first_place (has_text (text_of_type ty)) types 0) ≡ false → types ++ ty ∷ [] ≡ with_type types ty
new_type types ty h =
    let missing : list_any (same_func_type ty) types ≡ false = any_is (same_func_type ty) types 0 ∙ ap is_some (sym (place_by_text ty types)) ∙ h in
    sym (ap (λ (b : Bool). cond b types (types ++ ty ∷ [])) missing)

-- The places of texts after a type is appended.
pub new_place : (types : List FuncType) (ty : FuncType) (q : List ℕ) → is_some (first_place (has_text (text_of_type ty)) types 0) ≡ false →
    cond (bytes_eq (text_of_type ty) q) (Some (length types)) (first_place (has_text q) types 0) ≡ first_place (has_text q) (types ++ ty ∷ []) 0
new_place types ty q h = sym (place_push (has_text q) types ty 0 ∙ elim (cases_Bool (bytes_eq (text_of_type ty) q)) [
  | inl held ↦
      let same : text_of_type ty ≡ q = (bytes_eq-Decides (text_of_type ty) q).0 held in
      let missing : first_place (has_text q) types 0 ≡ None = ap (λ x. first_place (has_text x) types 0) (sym same) ∙ none_from (first_place (has_text (text_of_type ty)) types 0) h in
      let back : bytes_eq q (text_of_type ty) ≡ true = equal_swap q (text_of_type ty) ∙ held in
      let first : 0 + length types ≡ length types = omega arith in
      ap (λ o. or_other o (cond (bytes_eq q (text_of_type ty)) (Some (0 + length types)) None)) missing
      ∙ ap (λ (b : Bool). cond b (Some (0 + length types)) None) back ∙ ap Some first ∙ sym (ap (λ (b : Bool). cond b (Some (length types)) (first_place (has_text q) types 0)) held)
  | inr apart ↦
      let back : bytes_eq q (text_of_type ty) ≡ false = equal_swap q (text_of_type ty) ∙ apart in
      ap (λ (b : Bool). or_other (first_place (has_text q) types 0) (cond b (Some (0 + length types)) None)) back ∙ nothing (first_place (has_text q) types 0)
      ∙ sym (ap (λ (b : Bool). cond b (Some (length types)) (first_place (has_text q) types 0)) apart)
])
  where
    nothing : (o : Option ℕ) → or_other o None ≡ o
    nothing None = refl
    nothing (Some a) = refl

pub with_types_push : (ts us : List FuncType) (u : FuncType) → with_types ts (us ++ u ∷ []) ≡ with_type (with_types ts us) u
with_types_push ts [] u = refl
with_types_push ts (v ∷ us) u = with_types_push (with_type ts v) us u

pub with_types_join : (ts us vs : List FuncType) → with_types ts (us ++ vs) ≡ with_types (with_types ts us) vs
with_types_join ts [] vs = refl
with_types_join ts (u ∷ us) vs = with_types_join (with_type ts u) us vs

pub with_type_length : (ts : List FuncType) (u : FuncType) → length (with_type ts u) ≤ length ts + 1
with_type_length ts u = case (list_any (same_func_type u) ts)
  where
    case : (b : Bool) → length (cond b ts (ts ++ u ∷ [])) ≤ length ts + 1
    case true = omega arith
    case false = omega (arith, length_push ts u)

pub with_types_length : (ts us : List FuncType) → length (with_types ts us) ≤ length ts + length us
with_types_length ts [] = omega arith
with_types_length ts (u ∷ us) = omega (arith, with_type_length ts u, with_types_length (with_type ts u) us)
