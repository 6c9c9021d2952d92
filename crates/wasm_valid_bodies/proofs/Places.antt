-- The entries at the positions of a list: when it is reversed or mapped, and when entries are
-- marked.
use Rattle.base_lists.proofs.Common.{◌≡◌, ℕ, zero, suc, ◌+◌, ◌-◌, arith, Bool, true, false, List, [], ◌∷◌, map, reverse, length, get_or, Some, sym, ap, ◌∙◌, slice_get, slice_set, replicate, option_map, length-reverse, slice_get-get_or, get_or_from_slice_get, slice_get-map}
use Rattle.std.proofs.lemmas.List.{get_or-reverse}

pub reverse_at : {A : Type 0} (xs : List A) (i k : ℕ) (x : A) → suc (k + i) ≡ length xs → slice_get xs k ≡ Some x → slice_get (reverse xs) i ≡ Some x
reverse_at xs i k x e g =
    let there : length xs - 1 - i ≡ k = omega arith in
    slice_get-get_or (reverse xs) i x (omega (arith, length-reverse xs)) ∙ ap Some (get_or-reverse xs i x (omega arith) ∙ ap (λ j. get_or xs j x) there ∙ get_or_from_slice_get xs k x x g)

pub mapped_at : {A B : Type 0} (f : A → B) (xs : List A) (i k : ℕ) (x : A) → suc (k + i) ≡ length xs → slice_get xs k ≡ Some x → Some (f x) ≡ slice_get (map f (reverse xs)) i
mapped_at f xs i k x e g = sym (slice_get-map f (reverse xs) i ∙ ap (option_map f) (reverse_at xs i k x e g))

pub unmarked : (n l : ℕ) → slice_get (replicate n false) l ≡ Some true → ⊥
unmarked zero l e = cc
unmarked (suc n) zero e = cc
unmarked (suc n) (suc l) e = unmarked n l e

-- A property of all marked positions still holds after one more position that has it is marked.
pub marked_by : (P : ℕ → Type 0) (seen : List Bool) (i : ℕ) → ((k : ℕ) → slice_get seen k ≡ Some true → P k) → P i → (k : ℕ) → slice_get (slice_set seen i true) k ≡ Some true → P k
marked_by P [] i h here k e = h k e
marked_by P (b ∷ bs) zero h here zero e = here
marked_by P (b ∷ bs) zero h here (suc k) e = h (suc k) e
marked_by P (b ∷ bs) (suc i) h here zero e = h zero e
marked_by P (b ∷ bs) (suc i) h here (suc k) e = marked_by (λ z. P (suc z)) bs i (λ z g. h (suc z) g) here k e
