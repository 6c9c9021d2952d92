-- Encodings made of others: relations between a whole list of bytes and a value.
use Rattle.std.specs.Prelude.{◌≡◌, ℕ, ◌<◌, ◌≤◌, ◌⊎◌, List, [], ◌∷◌, ◌++◌, length, take, IsUtf8, Result, Ok, Err, IfOk, OnErr, ◌↔◌}
use Rattle.wasm_bytes.specs.declared.cursor.Wrong.{Wrong}
use Rattle.wasm_bytes.specs.declared.cursor.Wrong.TheVariants.{Short, Spelling}
use Rattle.wasm_bytes.specs.Numbers.{Unsigned, Takes, IsCut, IsMisspelled}

-- The bytes are a list for which `P` holds, followed by one for which `Q` holds.
abbrev pub Then : (List ℕ → Type 0) → (List ℕ → Type 0) → List ℕ → Type 0
Then P Q bytes = (front : List ℕ) × (back : List ℕ) × P front × Q back × (bytes ≡ front ++ back)

-- The bytes begin with a list for which `P` holds, and `rest` follows it.
abbrev pub TakesOff : (List ℕ → Type 0) → List ℕ → List ℕ → Type 0
TakesOff P bytes rest = (text : List ℕ) × P text × (bytes ≡ text ++ rest)

abbrev pub U32 : List ℕ → ℕ → Type 0
U32 = Unsigned 32

-- The bytes encode the items one after another.
abbrev pub Each : {A : Type 0} → (List ℕ → A → Type 0) → List ℕ → List A → Type 0
Each item bytes [] = bytes ≡ []
Each item bytes (x ∷ xs) = Then (λ b. item b x) (λ b. Each item b xs) bytes

-- The bytes encode how many items there are, and then the items (Core 2.0, 5.1.3).
abbrev pub Vector : {A : Type 0} → (List ℕ → A → Type 0) → List ℕ → List A → Type 0
Vector item bytes xs = Then (λ b. U32 b (length xs)) (λ b. Each item b xs) bytes

-- The bytes encode the size of the content, and the content follows (Core 2.0, 5.5.2).
abbrev pub Sized : List ℕ → List ℕ → Type 0
Sized bytes content = (size : List ℕ) × U32 size (length content) × (bytes ≡ size ++ content)

-- The bytes encode a name: its length in bytes, and UTF-8 (Core 2.0, 5.2.4).
abbrev pub Named : List ℕ → List ℕ → Type 0
Named bytes text = IsUtf8 text × Sized bytes text

-- The bytes do not begin with a name, because the length is cut short or exceeds what is left.
abbrev pub IsNameShort : List ℕ → Type 0
IsNameShort bytes = IsCut U32 bytes ⊎ ((n : ℕ) × (rest : List ℕ) × Takes U32 bytes n rest × (length rest < n))

-- The bytes do not begin with a name, because the length is malformed or its bytes are not UTF-8.
abbrev pub IsNameMisspelled : List ℕ → Type 0
IsNameMisspelled bytes = IsMisspelled U32 bytes ⊎ ((n : ℕ) × (rest : List ℕ) × Takes U32 bytes n rest × (n ≤ length rest) × (IsUtf8 (take n rest) → ⊥))

-- What reading a name returns and leaves: `old` is before it, `new` after it.
pub record IsNameRead (old : List ℕ) (result : Result (List ℕ) Wrong) (new : List ℕ) : Type 0 where
  pub ok : IfOk result (λ text. Takes Named old text new)
  pub only : (text : List ℕ) (rest : List ℕ) → Takes Named old text rest → (result ≡ Ok text) × (new ≡ rest)
  pub short : (result ≡ Err Short) ↔ IsNameShort old
  pub misspelled : (result ≡ Err Spelling) ↔ IsNameMisspelled old
  pub err : OnErr result (new ≡ old)
