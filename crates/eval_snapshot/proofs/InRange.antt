-- A property of each element of a list, carried out of a walk over it.
use Rattle.base_lists.proofs.Common.{ℕ, ◌+◌, ◌<◌, List, [], ◌∷◌, length, slice_index_or, subst, sym, take}
use Rattle.std.proofs.lemmas.List.{take_more}
use Rattle.base_lists.specs.Every.{Every}
use Rattle.base_lists.proofs.Every.{every_append}

pub every_more : {A : Type 0} (P : A → Type 0) (xs : List A) (n : ℕ) (x : A) → n < length xs → P (slice_index_or xs n x) → Every P (take n xs) → Every P (take (n + 1) xs)
every_more P xs n x lt holds before = subst (Every P) (sym (take_more xs n x lt)) (every_append P (take n xs) (slice_index_or xs n x ∷ []) before (holds, tt))
