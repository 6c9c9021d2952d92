-- Fronts and rests of lists of bytes.
use Rattle.std.proofs.Common.{◌≡◌, ℕ, zero, suc, ◌<◌, ◌≤◌, slice_index, List, [], ◌∷◌, ◌++◌, length, take, drop, refl, ap, subst, arith}
use Rattle.wasm_bytes.specs.Reading.{IsBytes}
use Rattle.wasm_bytes.specs.Joins.{TakesOff}

pub take_all : (front rest : List ℕ) → take (length front) (front ++ rest) ≡ front
take_all [] rest = refl
take_all (x ∷ xs) rest = ap (λ t. x ∷ t) (take_all xs rest)

pub drop_all : (front rest : List ℕ) → drop (length front) (front ++ rest) ≡ rest
drop_all [] rest = refl
drop_all (x ∷ xs) rest = drop_all xs rest

pub halves : (n : ℕ) (bs : List ℕ) → bs ≡ take n bs ++ drop n bs
halves zero bs = refl
halves (suc n) [] = refl
halves (suc n) (b ∷ bs) = ap (λ t. b ∷ t) (halves n bs)

pub taken : (n : ℕ) (bs : List ℕ) → n ≤ length bs → length (take n bs) ≡ n
taken zero bs h = refl
taken (suc n) [] h = absurd (omega arith)
taken (suc n) (b ∷ bs) h = ap suc (taken n bs (omega arith))

pub bytes_drop : (n : ℕ) (bs : List ℕ) → IsBytes bs → IsBytes (drop n bs)
bytes_drop zero bs h = h
bytes_drop (suc n) [] h = h
bytes_drop (suc n) (b ∷ bs) h = bytes_drop n bs (λ i. h (suc i))

-- A property of each entry of a list is a property of each entry behind a front.
pub rest_holds : (P : ℕ → Type 0) (front rest : List ℕ) → ((i : ℕ) → P (slice_index (front ++ rest) i)) → (i : ℕ) → P (slice_index rest i)
rest_holds P [] rest h = h
rest_holds P (x ∷ front) rest h = rest_holds P front rest (λ i. h (suc i))

pub small_rest : (P : List ℕ → Type 0) (bytes rest : List ℕ) → IsBytes bytes → TakesOff P bytes rest → IsBytes rest
small_rest P bytes rest h t = rest_holds (λ n. n < 256) t.0 rest (subst IsBytes t.2 h)
