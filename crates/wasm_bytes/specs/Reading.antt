-- Reading functions on lists: the value at the front and the bytes after it, or what is wrong.
use Rattle.std.specs.Prelude.{◌≡◌, ℕ, ◌-◌, ◌<◌, slice_index, List, [], ◌∷◌, length, take, drop, Option, Some, None, Result, Ok, Err, nat_lt, if◌then◌else◌, ℤ}
use Rattle.std.specs.Str.{is_utf8}
use Rattle.std.specs.Borrow.{Bor}
use Rattle.wasm_bytes.specs.declared.cursor.Wrong.{Wrong}
use Rattle.wasm_bytes.specs.declared.cursor.Wrong.TheVariants.{Short, Spelling}
use Rattle.wasm_bytes.specs.Numbers.{last_unsigned, join_unsigned, last_signed, join_signed}
pub use Rattle.base_lists.specs.Results.{◌>>=◌}

abbrev pub ok_or_spelling : {V : Type 0} → Option V → List ℕ → Result (V × List ℕ) Wrong
ok_or_spelling (Some v) rest = Ok (v, rest)
ok_or_spelling None rest = Err Spelling

abbrev pub map_value : {V : Type 0} → (V → V) → Result (V × List ℕ) Wrong → Result (V × List ℕ) Wrong
map_value f (Ok r) = Ok (f r.0, r.1)
map_value f (Err e) = Err e

module _ {V : Type 0} (last : ℕ → ℕ → Option V) (join : ℕ → V → V) where
  -- The number at the front and the bytes after it, or what is wrong.
  abbrev pub reading : ℕ → List ℕ → Result (V × List ℕ) Wrong
  reading bits [] = Err Short
  reading bits (b ∷ bs) = if nat_lt b 128 then ok_or_spelling (last bits b) bs else (if nat_lt 7 bits then map_value (join b) (reading (bits - 7) bs) else Err Spelling)

unfoldable pub unsigned_at : ℕ → List ℕ → Result (ℕ × List ℕ) Wrong
unsigned_at = reading last_unsigned join_unsigned

unfoldable pub signed_at : ℕ → List ℕ → Result (ℤ × List ℕ) Wrong
signed_at = reading last_signed join_signed

-- The result of a program function, with the slice seen as its bytes.
abbrev pub seen : {V : Type 0} → Result (V × Bor (List ℕ)) Wrong → Result (V × List ℕ) Wrong
seen (Ok r) = Ok (r.0, r.1.now)
seen (Err e) = Err e

-- A cursor's result and the bytes that it leaves are those of the reading function. An error leaves
-- the bytes unchanged.
abbrev pub CursorGives : {V : Type 0} → Result (V × List ℕ) Wrong → List ℕ → Result V Wrong → List ℕ → Type 0
CursorGives (Ok r) old result new = (result ≡ Ok r.0) × (new ≡ r.1)
CursorGives (Err e) old result new = (result ≡ Err e) × (new ≡ old)

-- Each number in the list is a byte.
abbrev pub IsBytes : List ℕ → Type 0
IsBytes bytes = (i : ℕ) → slice_index bytes i < 256

-- What a cursor returned, with the bytes left.
abbrev pub with_rest : {V : Type 0} → Result V Wrong → List ℕ → Result (V × List ℕ) Wrong
with_rest (Ok v) rest = Ok (v, rest)
with_rest (Err e) rest = Err e

abbrev pub byte_at : List ℕ → Result (ℕ × List ℕ) Wrong
byte_at [] = Err Short
byte_at (b ∷ bs) = Ok (b, bs)

-- The given number of bytes.
abbrev pub take_at : ℕ → List ℕ → Result (List ℕ × List ℕ) Wrong
take_at count bytes = if nat_lt (length bytes) count then Err Short else Ok (take count bytes, drop count bytes)

-- A slice or a text, seen as its bytes.
abbrev pub lent : Result (Bor (List ℕ)) Wrong → Result (List ℕ) Wrong
lent (Ok s) = Ok s.now
lent (Err e) = Err e

abbrev pub seen_text : Result (Bor (List ℕ) × Bor (List ℕ)) Wrong → Result (List ℕ × List ℕ) Wrong
seen_text (Ok r) = Ok (r.0.now, r.1.now)
seen_text (Err e) = Err e

abbrev pub utf8_or_spelling : List ℕ → List ℕ → Result (List ℕ × List ℕ) Wrong
utf8_or_spelling text rest = if is_utf8 text then Ok (text, rest) else Err Spelling

-- A length and as many bytes.
abbrev pub sized_at : List ℕ → Result (List ℕ × List ℕ) Wrong
sized_at bytes = unsigned_at 32 bytes >>= (λ n. take_at n.0 n.1)

-- A name.
unfoldable pub name_at : List ℕ → Result (List ℕ × List ℕ) Wrong
name_at bytes = sized_at bytes >>= (λ n. utf8_or_spelling n.0 n.1)
