-- One step of renaming.
use Rattle.std.specs.Prelude.{◌≡◌, ℕ, List, Option, Some, None, Bool, true, cond}
use Rattle.std.specs.Str.{bytes_eq}
use Rattle.merge_names.specs.Names.{numbered, IsLeastFree}

-- `new` is chosen for `name`. `taken` tells which names are taken, and `memo` has for each earlier
-- name a number below which none is free; `taken_after` and `after` are these two afterwards.
pub data IsChosen (name : List ℕ) (taken taken_after : List ℕ → Bool) (memo after : List ℕ → Option ℕ) (new : List ℕ) : Type 0 where
  first : memo name ≡ None → new ≡ name → ((q : List ℕ) → taken_after q ≡ taken q) → ((q : List ℕ) → after q ≡ cond (bytes_eq name q) (Some 1) (memo q)) →
      IsChosen name taken taken_after memo after new
  again : (from k : ℕ) → memo name ≡ Some from → IsLeastFree taken name k → new ≡ numbered name k → ((q : List ℕ) → after q ≡ cond (bytes_eq name q) (Some k) (memo q)) →
      ((q : List ℕ) → taken_after q ≡ cond (bytes_eq new q) true (taken q)) → IsChosen name taken taken_after memo after new
