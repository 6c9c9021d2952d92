-- The shortest encoding of a number (Core 2.0, 5.2.2).
use Rattle.std.specs.Prelude.{ℕ, zero, suc, ◌+◌, ◌-◌, ◌/◌, ◌%◌, ◌≤◌, List, [], ◌∷◌, ◌++◌, length, Bool, nat_lt, if◌then◌else◌, ℤ, pos, negsuc}

-- The shortest encoding of an unsigned number, in at most the given number of bytes.
unfoldable pub unsigned_text : ℕ → ℕ → List ℕ
unsigned_text zero n = []
unsigned_text (suc most) n = if nat_lt n 128 then n ∷ [] else (n % 128 + 128) ∷ unsigned_text most (n / 128)

abbrev pub u32_text : ℕ → List ℕ
u32_text = unsigned_text 5

-- The bytes `text` encode `v`, and no encoding of `v` is shorter.
pub record IsShortest {V : Type 0} (spelled : List ℕ → V → Type 0) (text : List ℕ) (v : V) : Type 0 where
  pub spells : spelled text v
  pub least : (other : List ℕ) → spelled other v → length text ≤ length other

-- The low seven bits of a number, and the number without them.
abbrev pub low : ℤ → ℕ
low (pos n) = n % 128
low (negsuc n) = 127 - n % 128

abbrev pub high : ℤ → ℤ
high (pos n) = pos (n / 128)
high (negsuc n) = negsuc (n / 128)

-- Whether one byte encodes the number.
abbrev pub is_small : ℤ → Bool
is_small (pos n) = nat_lt n 64
is_small (negsuc n) = nat_lt n 64

-- The shortest encoding of a signed number, in at most the given number of bytes.
unfoldable pub signed_text : ℕ → ℤ → List ℕ
signed_text zero z = []
signed_text (suc most) z = if is_small z then low z ∷ [] else (low z + 128) ∷ signed_text most (high z)

abbrev pub s32_text : ℤ → List ℕ
s32_text = signed_text 5

abbrev pub s33_text : ℤ → List ℕ
s33_text = signed_text 5

abbrev pub s64_text : ℤ → List ℕ
s64_text = signed_text 10

-- A content after its length.
abbrev pub sized_text : List ℕ → List ℕ
sized_text content = u32_text (length content) ++ content
