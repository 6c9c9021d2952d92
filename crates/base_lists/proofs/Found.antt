-- What is found at a place of a list, and how many elements a filter leaves.
use Rattle.std.proofs.Common.{◌≡◌, ℕ, zero, suc, ◌≤◌, ◌↔◌, arith, List, [], ◌∷◌, ◌++◌, length, Option, Some, None, IsNone, is_some, true, false, slice_get, drop, map, refl, sym, ap, subst, inl, inr, ◌⊎◌, ◌∙◌}
use Rattle.std.specs.Prelude.{option_and_then, option_map}
use Rattle.std.specs.Option.{option_copied}
use Rattle.std.specs.Borrow.{Bor}
use Rattle.std.specs.List.{filter_map}
use Rattle.std.proofs.lemmas.List.{drop_all}
use Rattle.std.proofs.lemmas.Option.{slice_get-map}

is_some_copied : {T : Type 0} (r : Option (Bor T)) → is_some (option_copied r) ≡ is_some r
is_some_copied None = refl
is_some_copied (Some x) = refl

nothing : {T : Type 0} (xs : List T) (i : ℕ) → (is_some (slice_get xs i) ≡ false) ↔ (length xs ≤ i)
nothing [] i = (λ e. omega arith, λ l. refl)
nothing (x ∷ xs) zero = (λ e. cc, λ l. absurd (omega arith))
nothing (x ∷ xs) (suc i) = (λ e. omega (arith, (nothing xs i).0 e), λ l. (nothing xs i).1 (omega arith))

-- A look-up finds nothing exactly from the length of the list on.
pub found_nothing : {T : Type 0} (r : Option (Bor T)) (xs : List T) (i : ℕ) → option_copied r ≡ slice_get xs i → IsNone r ↔ (length xs ≤ i)
found_nothing r xs i e =
    let same : is_some r ≡ is_some (slice_get xs i) = sym (is_some_copied r) ∙ ap is_some e in
    (λ h. (nothing xs i).0 (sym same ∙ h), λ l. same ∙ (nothing xs i).1 l)

-- A look-up that finds something is not past the end of the list.
pub found_something : {T : Type 0} (x : T) (xs : List T) (i : ℕ) → Some x ≡ slice_get xs i → (true ≡ false) ↔ (length xs ≤ i)
found_something x xs i e = (λ h. (nothing xs i).0 (sym (ap is_some e) ∙ h), λ l. ap is_some e ∙ (nothing xs i).1 l)

no_type_at : {T : Type 0} (ts : List T) (is : List ℕ) (i : ℕ) (m : Option ℕ) → slice_get is i ≡ m →
    (is_some (option_and_then (slice_get ts) m) ≡ false) ↔ ((length is ≤ i) ⊎ ((x : ℕ) × (slice_get is i ≡ Some x) × (length ts ≤ x)))
no_type_at ts is i None e =
    (λ h. inl ((nothing is i).0 (ap is_some e)), λ h. refl)
no_type_at ts is i (Some x) e = (
  λ h. inr (x, e, (nothing ts x).0 h),
  λ h. elim h [ inl past ↦ (let no : is_some (slice_get is i) ≡ false = (nothing is i).1 past in cc (ap is_some e)) | inr w ↦ (let same : x ≡ w.0 = cc in (nothing ts x).1 (subst (λ z. length ts ≤ z) (sym same) w.2)) ],
)

-- No type is found exactly where the place is past the list, or the index at this place is past the
-- types.
pub no_type : {T : Type 0} (r : Option (Bor T)) (ts : List T) (is : List ℕ) (i : ℕ) → option_copied r ≡ option_and_then (slice_get ts) (slice_get is i) →
    IsNone r ↔ ((length is ≤ i) ⊎ ((x : ℕ) × (slice_get is i ≡ Some x) × (length ts ≤ x)))
no_type r ts is i e =
    let same : is_some r ≡ is_some (option_and_then (slice_get ts) (slice_get is i)) = sym (is_some_copied r) ∙ ap is_some e in
    let at = no_type_at ts is i (slice_get is i) refl in
    (λ h. at.0 (sym same ∙ h), λ l. same ∙ at.1 l)

-- A look-up finds the element of the second list once all of the filtered list has been passed.
pub found_behind : {X Y A : Type 0} (h : X → Option Y) (xs : List X) (n : ℕ) (f : A → Y) (ys : List A) (i : ℕ) (m : Option Y) (r : Option (Bor A)) →
    m ≡ slice_get (filter_map h (drop n xs) ++ map f ys) i → length xs ≤ n → option_copied r ≡ slice_get ys i → option_map f (option_copied r) ≡ m
found_behind h xs n f ys i m r at past e =
    sym (at ∙ ap (λ zs. slice_get (filter_map h zs ++ map f ys) i) (drop_all n xs past) ∙ slice_get-map f ys i ∙ ap (option_map f) (sym e))
