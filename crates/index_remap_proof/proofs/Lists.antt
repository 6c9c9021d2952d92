-- Places that renumbering keeps.
use Rattle.base_lists.proofs.Common.{◌≡◌, ℕ, ◌<◌, ◌≤◌, true, List, length, Some, arith, slice_get, lt-ltb, slice_get_within, slice_get_there}
use Rattle.index_remap.specs.Prelude.{has, Keeps}

-- If the item at one place is also at another place of another list, that place is within the other
-- list.
pub place_kept : {A : Type 0} (xs ys : List A) (i j : ℕ) → Keeps (slice_get xs i) (slice_get ys j) → i < length xs → j < length ys
place_kept xs ys i j k lt = let x = slice_get_there xs i lt in slice_get_within ys j x.0 (k x.0 x.1)

pub has_at : {A : Type 0} (xs : List A) (ys : List ℕ) (i : ℕ) (x : A) → length xs ≤ length ys → slice_get xs i ≡ Some x → has ys i ≡ true
has_at xs ys i x le e = let lt = slice_get_within xs i x e in lt-ltb _ _ (omega arith)
