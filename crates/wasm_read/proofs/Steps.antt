-- The steps of the loops over frames and functions.
use Rattle.base_lists.proofs.Common.{◌≡◌, ℕ, zero, suc, ◌+◌, ◌<◌, ◌≤◌, List, [], ◌∷◌, length, drop, set, get_or, slice_get, slice_index, Bool, Result, Ok, Some, refl, sym, ap, ◌∙◌, subst, arith, add-one, drop_all}
use Rattle.wasm_bytes.specs.declared.framing.Frame.{Frame as Place}
use Rattle.wasm_bytes.specs.Prelude.{◌>>=◌, framed, framed_all}
use Rattle.wasm_tree_spec.specs.Prelude.{Func}
use Rattle.wasm_read_spec.specs.declared.fault.ReadFault.{ReadFault}
use Rattle.wasm_read_spec.specs.declared.fault.ReadFault.TheVariants.{NoMemory, NotModule, Malformed, MalformedBody, Unsupported, Limit}
use Rattle.wasm_read_spec.specs.declared.parts.Parts.{Parts}
use Rattle.wasm_read_spec.specs.Prelude.{section_at, typed}
use Rattle.wasm_read_spec.specs.Contents.{FileFails, contents_at}

pub drop_some : {A : Type 0} (xs : List A) (i : ℕ) (d : A) → i < length xs → drop i xs ≡ get_or xs i d ∷ drop (i + 1) xs
drop_some [] i d lt = absurd (omega arith)
drop_some (y ∷ ys) zero d lt = refl
drop_some (y ∷ ys) (suc i) d lt = let j : suc i + 1 ≡ suc (i + 1) = omega arith in rw j (drop_some ys i d (omega arith))

-- ---- faults

fails_in_through : {A B : Type 0} (e : ReadFault) (r : Result A ReadFault) (f : A → Result B ReadFault) → FileFails e r → FileFails e (r >>= f)
fails_in_through NoMemory r f h = tt
fails_in_through NotModule r f h = rw h
fails_in_through (Malformed s) r f h = rw h
fails_in_through (MalformedBody s) r f h = rw h
fails_in_through (Unsupported s g) r f h = rw h
fails_in_through (Limit w) r f h = rw h

-- ---- frames

module _ (many : Bool) (bytes : List ℕ) (fs : List Place) (whole : Result Parts ReadFault) where
  pub contents_more : (i k : ℕ) (d : Place) (p q : Parts) → i < length fs → k ≡ i → section_at many k p (framed bytes (get_or fs i d)) ≡ Ok q →
      whole ≡ contents_at many i p (framed_all bytes (drop i fs)) → whole ≡ contents_at many (i + 1) q (framed_all bytes (drop (i + 1) fs))
  unfolding contents_at
  contents_more i k d p q lt same e h = let f : section_at many i p (framed bytes (get_or fs i d)) ≡ Ok q = subst (λ j. section_at many j p (framed bytes (get_or fs i d)) ≡ Ok q) same e in h ∙ rw (drop_some fs i d lt, f)

  pub contents_stop : (i k : ℕ) (d : Place) (p : Parts) (e : ReadFault) → i < length fs → k ≡ i → FileFails e (section_at many k p (framed bytes (get_or fs i d))) →
      whole ≡ contents_at many i p (framed_all bytes (drop i fs)) → FileFails e whole
  unfolding contents_at
  contents_stop i k d p e lt same bad h = subst (FileFails e) (sym h) (rw (drop_some fs i d lt) (fails_in_through e (section_at many i p (framed bytes (get_or fs i d))) _ (subst (λ j. FileFails e (section_at many j p (framed bytes (get_or fs i d)))) same bad)))

  pub contents_end : (i : ℕ) (p : Parts) → length fs ≤ i → whole ≡ contents_at many i p (framed_all bytes (drop i fs)) → whole ≡ Ok p
  unfolding contents_at
  contents_end i p le h = h ∙ rw (drop_all i fs le)

-- ---- types of functions

-- The functions, of which the first `i` have their types.
pub partly : List ℕ → List Func → ℕ → List Func
partly ts fs zero = fs
partly [] fs (suc i) = fs
partly (t ∷ ts) [] (suc i) = []
partly (t ∷ ts) (f ∷ fs) (suc i) = record f { ty = t } ∷ partly ts fs i

pub partly_at : (ts : List ℕ) (fs : List Func) (i : ℕ) → slice_get (partly ts fs i) i ≡ slice_get fs i
unfolding partly
partly_at ts fs zero = refl
partly_at [] fs (suc i) = refl
partly_at (t ∷ ts) [] (suc i) = refl
partly_at (t ∷ ts) (f ∷ fs) (suc i) = partly_at ts fs i

partly_suc : (ts : List ℕ) (fs : List Func) (i : ℕ) (f : Func) → i < length ts → Some f ≡ slice_get fs i → set (partly ts fs i) i (record f { ty = slice_index ts i }) ≡ partly ts fs (suc i)
unfolding partly
partly_suc [] fs i f lt e = absurd (omega arith)
partly_suc (t ∷ ts) [] i f lt e = cc
partly_suc (t ∷ ts) (g ∷ fs) zero f lt e = let same : f ≡ g = cc in ap (λ (h : Func). record h { ty = t } ∷ fs) same
partly_suc (t ∷ ts) (g ∷ fs) (suc i) f lt e = ap (λ zs. record g { ty = t } ∷ zs) (partly_suc ts fs i f (omega arith) e)

pub partly_more : (ts : List ℕ) (fs : List Func) (i : ℕ) (f : Func) → i < length ts → Some f ≡ slice_get fs i → set (partly ts fs i) i (record f { ty = slice_index ts i }) ≡ partly ts fs (i + 1)
partly_more ts fs i f lt e = rw add-one (partly_suc ts fs i f lt e)

pub partly_none : (ts : List ℕ) (fs : List Func) → partly ts fs 0 ≡ fs
unfolding partly
partly_none ts fs = refl

partly_all : (ts : List ℕ) (fs : List Func) (i : ℕ) → i ≡ length ts → length ts ≡ length fs → partly ts fs i ≡ typed ts fs
unfolding partly
partly_all [] [] zero e h = refl
partly_all [] [] (suc i) e h = refl
partly_all [] (f ∷ fs) i e h = absurd (omega arith)
partly_all (t ∷ ts) fs zero e h = absurd (omega arith)
partly_all (t ∷ ts) [] (suc i) e h = absurd (omega arith)
partly_all (t ∷ ts) (f ∷ fs) (suc i) e h = ap (λ zs. record f { ty = t } ∷ zs) (partly_all ts fs i (omega arith) (omega arith))

pub partly_end : (ts : List ℕ) (fs : List Func) (i : ℕ) → i ≤ length ts → length ts ≤ i → length ts ≡ length fs → partly ts fs i ≡ typed ts fs
partly_end ts fs i le ge h = partly_all ts fs i (omega arith) h
