-- Counting bytes.
use Rattle.std.specs.Prelude.{ℕ, ◌+◌, ◌-◌, ◌^◌, min, max, Bool, true, false, ℤ, pos, negsuc}

-- The count with `more` bytes more, at most the greatest u64.
abbrev pub counted : ℕ → ℕ → ℕ
counted bytes more = max bytes (min (bytes + more) (2 ^ 64 - 1))

-- A number by how far it is from 0 or, if it is negative, below -1.
abbrev pub with_sign : Bool → ℕ → ℤ
with_sign false n = pos n
with_sign true n = negsuc n

abbrev pub is_negative : ℤ → Bool
is_negative (pos n) = false
is_negative (negsuc n) = true
