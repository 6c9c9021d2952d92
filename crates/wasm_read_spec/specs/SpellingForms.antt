-- Encodings made of others, besides those of wasm_bytes: relations between a whole list of bytes
-- and a value.
use Rattle.std.specs.Prelude.{◌≡◌, ℕ, ◌≤◌, List, [], ◌∷◌, length, Bool, true, false, Result, Ok, ℤ}
use Rattle.base_lists.specs.Every.{Every}
use Rattle.wasm_bytes.specs.Prelude.{Signed, Then}
use Rattle.wasm_read_spec.specs.declared.fault.Fault.{Fault}

abbrev pub S32 : List ℕ → ℤ → Type 0
S32 = Signed 32

abbrev pub S64 : List ℕ → ℤ → Type 0
S64 = Signed 64

-- One byte.
abbrev pub Byte : List ℕ → ℕ → Type 0
Byte bytes b = bytes ≡ b ∷ []

-- One byte, whose code stands for the value.
abbrev pub Coded : {A : Type 0} → (ℕ → Result A Fault) → List ℕ → A → Type 0
Coded code bytes x = (b : ℕ) × (code b ≡ Ok x) × (bytes ≡ b ∷ [])

-- The value, encoded by no bytes.
abbrev pub Just : {A : Type 0} → A → List ℕ → A → Type 0
Just x bytes y = (bytes ≡ []) × (y ≡ x)

abbrev pub Never : {A : Type 0} → List ℕ → A → Type 0
Never bytes x = ⊥

-- One value, and then another.
abbrev pub Both : {A B : Type 0} → (List ℕ → A → Type 0) → (List ℕ → B → Type 0) → List ℕ → A × B → Type 0
Both P Q bytes p = Then (λ b. P b p.0) (λ b. Q b p.1) bytes

-- What `make` makes of a value that the bytes encode.
abbrev pub MadeFrom : {A B : Type 0} → (A → B) → (List ℕ → A → Type 0) → List ℕ → B → Type 0
MadeFrom {A} make P bytes y = (x : A) × P bytes x × (y ≡ make x)

-- A first value, and then what depends on it.
abbrev pub Chosen : {K A : Type 0} → (List ℕ → K → Type 0) → (K → List ℕ → A → Type 0) → List ℕ → A → Type 0
Chosen {K} P Q bytes x = (k : K) × Then (λ b. P b k) (λ b. Q k b x) bytes

-- One encoding if the test is true, and otherwise another.
abbrev pub When : {A : Type 0} → Bool → (List ℕ → A → Type 0) → (List ℕ → A → Type 0) → List ℕ → A → Type 0
When true P Q bytes x = P bytes x
When false P Q bytes x = Q bytes x

-- This byte first.
abbrev pub After : {A : Type 0} → ℕ → (List ℕ → A → Type 0) → List ℕ → A → Type 0
After tag P bytes x = (text : List ℕ) × P text x × (bytes ≡ tag ∷ text)

-- This byte last.
abbrev pub Closed : {A : Type 0} → ℕ → (List ℕ → A → Type 0) → List ℕ → A → Type 0
Closed tag P bytes x = Then (λ b. P b x) (λ b. b ≡ tag ∷ []) bytes

-- ---- sizes

abbrev pub Any : {A : Type 0} → A → Type 0
Any x = Unit {0}

-- The list has at most `most` items, and each is small.
abbrev pub Few : {A : Type 0} → ℕ → (A → Type 0) → List A → Type 0
Few most small xs = (length xs ≤ most) × Every small xs

-- Each value that the bytes encode is small.
abbrev pub Limited : {A : Type 0} → (List ℕ → A → Type 0) → (A → Type 0) → List ℕ → Type 0
Limited {A} spells small bytes = (x : A) → spells bytes x → small x

abbrev pub WhenSmall : Bool → (List ℕ → Type 0) → (List ℕ → Type 0) → List ℕ → Type 0
WhenSmall true P Q bytes = P bytes
WhenSmall false P Q bytes = Q bytes
