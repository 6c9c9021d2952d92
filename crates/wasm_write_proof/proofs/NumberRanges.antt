-- Each encoded number is in the range of its type.
use Rattle.base_lists.proofs.Common.{◌≡◌, ℕ, ◌<◌, ◌^◌, List, [], ◌∷◌, Bool, true, false, ℤ, pos, negsuc, sym, subst, arith, lt-ltb, ints}
use Rattle.wasm_bytes.specs.Prelude.{Signed, IsWithin, U32, Each, Vector}
use Rattle.wasm_bytes.specs.Numbers.{Unsigned}
use Rattle.wasm_tree_spec.specs.Prelude.{PassesInside}
use Rattle.base_lists.specs.Every.{Every}
use Rattle.wasm_read_spec.specs.Prelude.{MadeFrom, When, Never}
use Rattle.wasm_write_proof.specs.Ranges.{small, small_signed, IsU32, EncodesOnly}

-- The laws of wasm_bytes on numbers that bytes encode, and a law of wasm_tree on operands.
pub record RangeLaws : Type 0 where
  pub unsigned : (bits : ℕ) (text : List ℕ) (n : ℕ) → Unsigned bits text n → n < 2 ^ bits
  pub signed : (bits : ℕ) (text : List ℕ) (z : ℤ) → Signed bits text z → IsWithin bits z
  pub inside : PassesInside

pub u32_in : RangeLaws → (text : List ℕ) (n : ℕ) → U32 text n → IsU32 n
u32_in laws text n h = laws.unsigned 32 text n h

-- ---- as tests

pub is_small : (n : ℕ) → IsU32 n → small n ≡ true
is_small n h = lt-ltb n (2 ^ 32) h

pub is_small_32 : (z : ℤ) → IsWithin 32 z → small_signed 31 z ≡ true
is_small_32 (pos n) h = let k = h.1 in let lt : n < 2 ^ 31 = omega (arith, ints) in lt-ltb n (2 ^ 31) lt
is_small_32 (negsuc n) h = let k = h.0 in let lt : n < 2 ^ 31 = omega (arith, ints) in lt-ltb n (2 ^ 31) lt

pub is_small_64 : (z : ℤ) → IsWithin 64 z → small_signed 63 z ≡ true
is_small_64 (pos n) h = let k = h.1 in let lt : n < 2 ^ 63 = omega (arith, ints) in lt-ltb n (2 ^ 63) lt
is_small_64 (negsuc n) h = let k = h.0 in let lt : n < 2 ^ 63 = omega (arith, ints) in lt-ltb n (2 ^ 63) lt

pub is_index : RangeLaws → (text : List ℕ) (n : ℕ) → Signed 33 text (pos n) → small n ≡ true
is_index laws text n h = let k = (laws.signed 33 text (pos n) h).1 in let lt : n < 2 ^ 32 = omega (arith, ints) in lt-ltb n (2 ^ 32) lt

-- ---- what spellings say of their values

pub says_when : {A : Type 0} (K : A → Type 0) (P Q : List ℕ → A → Type 0) (test : Bool) → EncodesOnly K P → EncodesOnly K Q → EncodesOnly K (When test P Q)
says_when K P Q true a b = a
says_when K P Q false a b = b

pub says_made : {A B : Type 0} (K : B → Type 0) (make : A → B) (P : List ℕ → A → Type 0) → EncodesOnly (λ x. K (make x)) P → EncodesOnly K (MadeFrom make P)
says_made K make P a bytes y h = subst K (sym h.2) (a bytes h.0 h.1)

pub says_never : {A : Type 0} (K : A → Type 0) → EncodesOnly K Never
says_never K bytes x h = absurd h

pub says_each : {A : Type 0} (K : A → Type 0) (P : List ℕ → A → Type 0) → EncodesOnly K P → EncodesOnly (Every K) (Each P)
says_each K P a bytes [] h = tt
says_each K P a bytes (x ∷ xs) h = (a h.0 x h.2, says_each K P a h.1 xs h.3)

pub says_vector : {A : Type 0} (K : A → Type 0) (P : List ℕ → A → Type 0) → EncodesOnly K P → EncodesOnly (Every K) (Vector P)
says_vector K P a bytes xs h = says_each K P a h.1 xs h.3
