-- The first fault of a list.
use Rattle.base_lists.proofs.Common.{◌≡◌, ◌∙◌, sym, ap, refl, ℕ, ◌+◌, ◌<◌, ◌≤◌, List, [], ◌∷◌, Option, Some, None, map, length, drop, get_or, drop_more, drop_all}
use Rattle.std.specs.Option.{option_or}
use Rattle.merge_spec.specs.declared.faults.LinkFault.{LinkFault}
use Rattle.merge_spec.specs.Prelude.{first_fault}

one_on : {A : Type 0} (f : A → Option LinkFault) (xs : List A) (i : ℕ) (x : A) → i < length xs → x ≡ get_or xs i x → first_fault f (drop i xs) ≡ option_or (f x) (first_fault f (drop (i + 1) xs))
one_on f xs i x h is = ap (first_fault f) (drop_more xs i x h) ∙ ap (λ y. option_or (f y) (first_fault f (drop (i + 1) xs))) (sym is)

-- If the current element has no fault, the first fault is that of the elements behind it.
pub first_pass : {A : Type 0} (f : A → Option LinkFault) (xs : List A) (i : ℕ) (x : A) (o : Option LinkFault) → i < length xs → x ≡ get_or xs i x → f x ≡ None → first_fault f (drop i xs) ≡ o → first_fault f (drop (i + 1) xs) ≡ o
first_pass f xs i x o h is none all = sym (one_on f xs i x h is ∙ ap (λ y. option_or y (first_fault f (drop (i + 1) xs))) none) ∙ all

-- If the current element has a fault, it is the first fault.
pub first_stop : {A : Type 0} (f : A → Option LinkFault) (xs : List A) (i : ℕ) (x : A) (o : Option LinkFault) (e : LinkFault) → i < length xs → x ≡ get_or xs i x → f x ≡ Some e → first_fault f (drop i xs) ≡ o → Some e ≡ o
first_stop f xs i x o e h is some all = sym (one_on f xs i x h is ∙ ap (λ y. option_or y (first_fault f (drop (i + 1) xs))) some) ∙ all

pub first_none : {A : Type 0} (f : A → Option LinkFault) (xs : List A) (i : ℕ) (o : Option LinkFault) → length xs ≤ i → first_fault f (drop i xs) ≡ o → None ≡ o
first_none f xs i o h all = sym (ap (first_fault f) (drop_all i xs h)) ∙ all

pub first_map : {A B : Type 0} (f : B → Option LinkFault) (g : A → B) (xs : List A) → first_fault f (map g xs) ≡ first_fault (λ x. f (g x)) xs
first_map f g [] = refl
first_map f g (x ∷ xs) = ap (option_or (f (g x))) (first_map f g xs)
