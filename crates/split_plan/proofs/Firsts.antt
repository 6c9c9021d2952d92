-- The first value that a function gives for an element of a list, in a search from the left.
use Rattle.base_lists.proofs.Common.{◌≡◌, ℕ, ◌+◌, ◌<◌, ◌≤◌, length, drop, get_or, List, Option, None, refl, ◌∙◌, at_drop_more}
use Rattle.base_lists.specs.Options.{first_given}

module _ {A B : Type 0} (f : A → Option B) (xs : List A) where
  -- An element for which the function gives nothing can be dropped.
  pub goes_on : (i : ℕ) (d : A) → i < length xs → f (get_or xs i d) ≡ None → first_given f xs ≡ first_given f (drop i xs) → first_given f xs ≡ first_given f (drop (i + 1) xs)
  goes_on i d lt none h = h ∙ at_drop_more (first_given f) xs i d lt ∙ rw none refl
