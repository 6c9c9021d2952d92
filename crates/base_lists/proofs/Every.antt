-- What holds of each element of a list, and of each of what is made of it.
use Rattle.std.proofs.Common.{◌≡◌, ℕ, zero, suc, List, [], ◌∷◌, ◌++◌, map, Option, Some, None, refl, slice_get}
use Rattle.std.specs.List.{cons_option, filter_map}
use Rattle.base_lists.specs.Every.{Every}

pub every_from : {A : Type 0} (P : A → Type 0) (xs : List A) → ((n : ℕ) (x : A) → slice_get xs n ≡ Some x → P x) → Every P xs
every_from P [] h = tt
every_from P (x ∷ xs) h = (h 0 x refl, every_from P xs (λ n. h (suc n)))

pub every_of : {A : Type 0} (Q : A → Type 0) (xs : List A) → ((x : A) → Q x) → Every Q xs
every_of Q [] f = tt
every_of Q (x ∷ xs) f = (f x, every_of Q xs f)

pub every_with : {A : Type 0} (P Q : A → Type 0) (xs : List A) → ((x : A) → P x → Q x) → Every P xs → Every Q xs
every_with P Q [] f h = tt
every_with P Q (x ∷ xs) f h = (f x h.0, every_with P Q xs f h.1)

pub every_placed : {A : Type 0} (P Q : A → Type 0) (xs : List A) → Every P xs → ((n : ℕ) (x : A) → slice_get xs n ≡ Some x → P x → Q x) → Every Q xs
every_placed P Q [] h f = tt
every_placed P Q (x ∷ xs) h f = (f 0 x refl h.0, every_placed P Q xs h.1 (λ n y e p. f (suc n) y e p))

pub every_append : {A : Type 0} (P : A → Type 0) (xs ys : List A) → Every P xs → Every P ys → Every P (xs ++ ys)
every_append P [] ys h k = k
every_append P (x ∷ xs) ys h k = (h.0, every_append P xs ys h.1 k)

pub every_map : {A B : Type 0} (P : A → Type 0) (Q : B → Type 0) (f : A → B) → ((x : A) → P x → Q (f x)) → (xs : List A) → Every P xs → Every Q (map f xs)
every_map P Q f keep [] h = tt
every_map P Q f keep (x ∷ xs) h = (keep x h.0, every_map P Q f keep xs h.1)

-- Every chosen value has a property if each value that may be chosen has it.
pub every_some : {A B : Type 0} (Q : B → Type 0) (f : A → Option B) → ((x : A) (y : B) → f x ≡ Some y → Q y) → (xs : List A) → Every Q (filter_map f xs)
every_some Q f keep [] = tt
every_some Q f keep (x ∷ xs) = with_first Q f xs (f x) (λ y e. keep x y e) (every_some Q f keep xs)
  where
    with_first : {A B : Type 0} (Q : B → Type 0) (f : A → Option B) (xs : List A) (o : Option B) → ((y : B) → o ≡ Some y → Q y) → Every Q (filter_map f xs) → Every Q (cons_option o (filter_map f xs))
    with_first Q f xs None keep h = h
    with_first Q f xs (Some y) keep h = (keep y refl, h)
