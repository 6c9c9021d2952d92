-- Encodings of numbers (Core 2.0, 5.2.2): seven bits in each byte, the lowest first; bit 7 says
-- that another byte follows.
use Rattle.std.specs.Prelude.{◌≡◌, ℕ, ◌+◌, ◌-◌, ◌*◌, ◌^◌, ◌<◌, ◌≤◌, List, [], ◌∷◌, ◌++◌, Option, Some, None, Result, Ok, Err, IfOk, OnErr, ◌↔◌, nat_lt, if◌then◌else◌, ℤ, pos, neg_ℤ, ◌≤ℤ◌, ◌<ℤ◌, ◌+ℤ◌}
use Rattle.std.specs.Prelude.{◌-ℤ◌, ◌*ℤ◌}
use Rattle.wasm_bytes.specs.declared.cursor.Wrong.{Wrong}
use Rattle.wasm_bytes.specs.declared.cursor.Wrong.TheVariants.{Short, Spelling}

-- The bytes encode a number. `last bits b` is the value of a last byte `b` when `bits` bits are
-- left, if it has one. `join b high` is that of a byte `b` followed by bytes of value `high`.
module _ {V : Type 0} (last : ℕ → ℕ → Option V) (join : ℕ → V → V) where
  abbrev pub SpellsNumber : ℕ → List ℕ → V → Type 0
  SpellsNumber bits [] v = ⊥
  SpellsNumber bits (b ∷ []) v = (b < 128) × (last bits b ≡ Some v)
  SpellsNumber bits (b ∷ c ∷ bs) v = (128 ≤ b) × (b < 256) × (7 < bits) × (high : V) × (v ≡ join b high) × SpellsNumber (bits - 7) (c ∷ bs) high

abbrev pub last_unsigned : ℕ → ℕ → Option ℕ
last_unsigned bits b = if nat_lt b (2 ^ bits) then Some b else None

abbrev pub join_unsigned : ℕ → ℕ → ℕ
join_unsigned b high = (b - 128) + 128 * high

-- The bytes encode the unsigned number of this many bits.
abbrev pub Unsigned : ℕ → List ℕ → ℕ → Type 0
Unsigned = SpellsNumber last_unsigned join_unsigned

-- Bit 6 is the sign, and the unused bits of the last byte copy it.
abbrev pub last_signed : ℕ → ℕ → Option ℤ
last_signed bits b =
    if nat_lt b 64 then (if nat_lt b (2 ^ (bits - 1)) then Some (pos b) else None)
    else (if nat_lt (127 - b) (2 ^ (bits - 1)) then Some (pos b -ℤ pos 128) else None)

-- `v` is a signed number of this many bits.
abbrev pub IsWithin : ℕ → ℤ → Type 0
IsWithin bits v = (neg_ℤ (pos (2 ^ (bits - 1))) ≤ℤ v) × (v <ℤ pos (2 ^ (bits - 1)))

abbrev pub join_signed : ℕ → ℤ → ℤ
join_signed b high = pos (b - 128) +ℤ (pos 128 *ℤ high)

-- The bytes encode the signed number of this many bits.
abbrev pub Signed : ℕ → List ℕ → ℤ → Type 0
Signed = SpellsNumber last_signed join_signed

-- The bytes begin with an encoding of `v`, and `rest` follows it.
abbrev pub Takes : {V : Type 0} → (List ℕ → V → Type 0) → List ℕ → V → List ℕ → Type 0
Takes spelled bytes v rest = (text : List ℕ) × spelled text v × (bytes ≡ text ++ rest)

-- The bytes are an encoding cut short.
abbrev pub IsCut : {V : Type 0} → (List ℕ → V → Type 0) → List ℕ → Type 0
IsCut {V} spelled bytes = (x : ℕ) × (more : List ℕ) × (v : V) × spelled (bytes ++ x ∷ more) v

-- The bytes do not begin with an encoding and are not one cut short.
abbrev pub IsMisspelled : {V : Type 0} → (List ℕ → V → Type 0) → List ℕ → Type 0
IsMisspelled {V} spelled bytes = ((v : V) (rest : List ℕ) → Takes spelled bytes v rest → ⊥) × (IsCut spelled bytes → ⊥)

-- What a read returns and leaves: `old` is before it, `new` after it.
pub record IsRead {V : Type 0} (spelled : List ℕ → V → Type 0) (old : List ℕ) (result : Result V Wrong) (new : List ℕ) : Type 0 where
  pub ok : IfOk result (λ v. Takes spelled old v new)
  pub only : (v : V) (rest : List ℕ) → Takes spelled old v rest → (result ≡ Ok v) × (new ≡ rest)
  pub short : (result ≡ Err Short) ↔ IsCut spelled old
  pub misspelled : (result ≡ Err Spelling) ↔ IsMisspelled spelled old
  pub err : OnErr result (new ≡ old)
