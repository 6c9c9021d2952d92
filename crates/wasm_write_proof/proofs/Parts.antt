-- The canonical encodings of numbers, vectors and sized contents encode them.
use Rattle.base_lists.proofs.Common.{◌≡◌, ℕ, ◌<◌, ◌≤◌, ◌^◌, List, [], ◌∷◌, ◌++◌, map, length, true, ℤ, pos, negsuc, refl, sym, ap, ◌∙◌, subst, arith, append_assoc, ⊎_elim, ltb-true, lt-ltb, le-ltb, cases_lt, ints, length-map}
use Rattle.std.proofs.Common.{length-append}
use Rattle.wasm_bytes.specs.Prelude.{Signed, IsWithin, u32_text, s32_text, s64_text, sized_text, U32, Each, Vector, Sized}
use Rattle.wasm_bytes.specs.Writing.{s33_text, unsigned_text, IsShortest}
use Rattle.wasm_tree_spec.specs.Prelude.{PassesInside}
use Rattle.wasm_write_spec.specs.PlainValues.{each_text, vector_text}
use Rattle.base_lists.specs.Every.{Every}
use Rattle.wasm_write_proof.specs.Ranges.{small, small_signed}

-- The laws of wasm_bytes on the encodings of numbers, and a law of wasm_tree on operands.
pub record TextLaws : Type 0 where
  pub u32 : (n : ℕ) → n < 2 ^ 32 → IsShortest U32 (u32_text n) n
  pub s32 : (z : ℤ) → IsWithin 32 z → IsShortest (Signed 32) (s32_text z) z
  pub s33 : (z : ℤ) → IsWithin 33 z → IsShortest (Signed 33) (s33_text z) z
  pub s64 : (z : ℤ) → IsWithin 64 z → IsShortest (Signed 64) (s64_text z) z
  pub inside : PassesInside

pub below : (n : ℕ) → small n ≡ true → n < 2 ^ 32
below n h = ltb-true n (2 ^ 32) h

pub u32_spells : TextLaws → (n : ℕ) → n < 2 ^ 32 → U32 (u32_text n) n
u32_spells laws n h = (laws.u32 n h).spells

pub index_spells : TextLaws → (n : ℕ) → n < 2 ^ 32 → Signed 33 (s33_text (pos n)) (pos n)
index_spells laws n h = (laws.s33 (pos n) (omega (arith, ints), omega (arith, ints))).spells

pub s32_spells : TextLaws → (z : ℤ) → IsWithin 32 z → Signed 32 (s32_text z) z
s32_spells laws z w = (laws.s32 z w).spells

pub s64_spells : TextLaws → (z : ℤ) → IsWithin 64 z → Signed 64 (s64_text z) z
s64_spells laws z w = (laws.s64 z w).spells

pub within_32 : (z : ℤ) → small_signed 31 z ≡ true → IsWithin 32 z
within_32 (pos n) h = let k = ltb-true n (2 ^ 31) h in (omega (arith, ints), omega (arith, ints))
within_32 (negsuc n) h = let k = ltb-true n (2 ^ 31) h in (omega (arith, ints), omega (arith, ints))

pub within_64 : (z : ℤ) → small_signed 63 z ≡ true → IsWithin 64 z
within_64 (pos n) h = let k = ltb-true n (2 ^ 63) h in (omega (arith, ints), omega (arith, ints))
within_64 (negsuc n) h = let k = ltb-true n (2 ^ 63) h in (omega (arith, ints), omega (arith, ints))

-- A number below 128 is encoded by one byte.
pub flag_spells : (n : ℕ) → n < 128 → U32 (n ∷ []) n
flag_spells n h = let k : n < 2 ^ 32 = omega arith in (h, rw (lt-ltb n (2 ^ 32) k))

pub u32_some : (n : ℕ) → 0 < length (u32_text n)
unfolding unsigned_text
u32_some n = ⊎_elim (λ lt. rw (lt-ltb n 128 lt) (omega arith)) (λ le. rw (le-ltb n 128 le) (omega arith)) (cases_lt n 128)

pub sized_spells : TextLaws → (content : List ℕ) → length content < 2 ^ 32 → Sized (sized_text content) content
sized_spells laws content h = (u32_text (length content), u32_spells laws (length content) h, refl)

-- ---- items one after another

pub each_spells : {A : Type 0} (spells : List ℕ → A → Type 0) (text : A → List ℕ) (xs : List A) → Every (λ x. spells (text x) x) xs → Each spells (each_text text xs) xs
each_spells spells text [] h = refl
each_spells spells text (x ∷ xs) h = (text x, each_text text xs, h.0, each_spells spells text xs h.1, refl)

pub each_mapped : {A B : Type 0} (f : A → B) (spells : List ℕ → B → Type 0) (text : A → List ℕ) (xs : List A) → Every (λ x. spells (text x) (f x)) xs → Each spells (each_text text xs) (map f xs)
each_mapped f spells text [] h = refl
each_mapped f spells text (x ∷ xs) h = (text x, each_text text xs, h.0, each_mapped f spells text xs h.1, refl)

pub each_join : {A : Type 0} (spells : List ℕ → A → Type 0) (xs ys : List A) (a b : List ℕ) → Each spells a xs → Each spells b ys → Each spells (a ++ b) (xs ++ ys)
each_join spells [] ys a b one two = rw one two
each_join spells (x ∷ xs) ys a b one two = (one.0, one.1 ++ b, one.2, each_join spells xs ys one.1 b one.3 two, ap (λ t. t ++ b) one.4 ∙ append_assoc one.0 one.1 b)

-- There are at most as many items as bytes if each item is encoded by at least one byte.
pub count_below : {A : Type 0} (text : A → List ℕ) (xs : List A) → ((x : A) → 0 < length (text x)) → length xs ≤ length (each_text text xs)
count_below text [] some = omega arith
count_below text (x ∷ xs) some = let h = count_below text xs some in let k = some x in omega (arith, h, k, length-append (text x) (each_text text xs))

pub vector_count : {A : Type 0} (text : A → List ℕ) (xs : List A) → ((x : A) → 0 < length (text x)) → length (vector_text text xs) < 2 ^ 32 → length xs < 2 ^ 32
vector_count text xs some h = let k = count_below text xs some in omega (arith, h, k, length-append (u32_text (length xs)) (each_text text xs))

pub vector_spells : TextLaws → {A : Type 0} (spells : List ℕ → A → Type 0) (text : A → List ℕ) (xs : List A) → ((x : A) → 0 < length (text x)) → length (vector_text text xs) < 2 ^ 32 →
    Every (λ x. spells (text x) x) xs → Vector spells (vector_text text xs) xs
vector_spells laws spells text xs some few h = (u32_text (length xs), each_text text xs, u32_spells laws (length xs) (vector_count text xs some few), each_spells spells text xs h, refl)

pub vector_mapped : TextLaws → {A B : Type 0} (f : A → B) (spells : List ℕ → B → Type 0) (text : A → List ℕ) (xs : List A) → ((x : A) → 0 < length (text x)) → length (vector_text text xs) < 2 ^ 32 →
    Every (λ x. spells (text x) (f x)) xs → Vector spells (vector_text text xs) (map f xs)
vector_mapped laws f spells text xs some few h =
    (u32_text (length xs), each_text text xs, subst (U32 (u32_text (length xs))) (sym (length-map xs f)) (u32_spells laws (length xs) (vector_count text xs some few)), each_mapped f spells text xs h, refl)

-- ---- what holds of every item

-- A property of items with short encodings holds of every item if the encoding of all of them is
-- short.
pub every_short : {A : Type 0} (P Q : A → Type 0) (text : A → List ℕ) (xs : List A) → ((x : A) → P x → length (text x) < 2 ^ 32 → Q x) → length (each_text text xs) < 2 ^ 32 → Every P xs → Every Q xs
every_short P Q text [] f few h = tt
every_short P Q text (x ∷ xs) f few h =
    (f x h.0 (omega (arith, few, length-append (text x) (each_text text xs))), every_short P Q text xs f (omega (arith, few, length-append (text x) (each_text text xs))) h.1)
