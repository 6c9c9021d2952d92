-- The imports of all parts in order, and those of a kind that stay.
use Rattle.base_lists.proofs.Common.{◌≡◌, ◌∙◌, sym, ap, refl, inl, inr, ℕ, zero, suc, ◌+◌, ◌-◌, ◌<◌, ◌≤◌, List, [], ◌∷◌, ◌++◌, length, take, arith, slice_get, Bool, true, false, cond, Some, None, append_assoc, ◌&&◌, cases_Bool, nat_tests, length-append, filter-append}
use Rattle.wasm_tree_spec.specs.Prelude.{Space, Module}
use Rattle.std.specs.Prelude.{filter}
use Rattle.wasm_meaning.specs.Prelude.{Part, Site, places, module_at, same_site, first_place, sites_in, sites_from, sites}
use Rattle.merge_spec.specs.Prelude.{stays, imports_kind}
use Rattle.merge_spec.specs.Merged.{staying, staying_of}
use Rattle.merge_join.specs.LinkedParts.{site}
use Rattle.merge_join.specs.Spaces.{staying_place, picked, sites_before, count_before}

-- ---- places of a kind ----

places_from_push : {A : Type 0} (is : A → Bool) (xs : List A) (x : A) (n i : ℕ) → slice_get xs i ≡ Some x → places is (take (suc i) xs) n ≡ places is (take i xs) n ++ cond (is x) ((n + i) ∷ []) []
places_from_push is [] x n i h = cc
places_from_push is (y ∷ ys) x n zero h =
    let same : y ≡ x = cc in
    let e : n ≡ n + 0 = omega arith in
    ap (λ z. cond (is z) (n ∷ []) []) same ∙ ap (λ k. cond (is x) (k ∷ []) []) e
places_from_push is (y ∷ ys) x n (suc i) h =
    let e : suc n + i ≡ n + suc i = omega arith in
    let more = places_from_push is ys x (suc n) i h ∙ ap (λ k. places is (take i ys) (suc n) ++ cond (is x) (k ∷ []) []) e in
    step (is y) (places is (take (suc i) ys) (suc n)) (places is (take i ys) (suc n)) (cond (is x) ((n + suc i) ∷ []) []) more
  where
    step : (b : Bool) (a c d : List ℕ) → a ≡ c ++ d → cond b (n ∷ a) a ≡ cond b (n ∷ c) c ++ d
    step true a c d e = ap (λ z. n ∷ z) e
    step false a c d e = e

-- The places of the imports of a kind, with one more import.
pub places_push : {A : Type 0} (is : A → Bool) (xs : List A) (x : A) (i : ℕ) → slice_get xs i ≡ Some x → places is (take (i + 1) xs) 0 ≡ places is (take i xs) 0 ++ cond (is x) (i ∷ []) []
places_push is xs x i h =
    let e : i + 1 ≡ suc i = omega arith in
    let z : 0 + i ≡ i = omega arith in
    ap (λ k. places is (take k xs) 0) e ∙ places_from_push is xs x 0 i h ∙ ap (λ k. places is (take i xs) 0 ++ cond (is x) (k ∷ []) []) z

-- ---- the sites ----

pub sites_in_push : (p n q : ℕ) → sites_in p (suc n) q ≡ sites_in p n q ++ site p (q + n) ∷ []
sites_in_push p zero q = let e : q ≡ q + 0 = omega arith in ap (λ k. site p k ∷ []) e
sites_in_push p (suc n) q = let e : suc q + n ≡ q + suc n = omega arith in ap (λ rest. site p q ∷ rest) (sites_in_push p n (suc q) ∙ ap (λ k. sites_in p n (suc q) ++ site p k ∷ []) e)

pub sites_in_more : (p n : ℕ) → sites_in p (n + 1) 0 ≡ sites_in p n 0 ++ site p n ∷ []
sites_in_more p n = let e : n + 1 ≡ suc n = omega arith in let z : 0 + n ≡ n = omega arith in ap (λ k. sites_in p k 0) e ∙ sites_in_push p n 0 ∙ ap (λ k. sites_in p n 0 ++ site p k ∷ []) z

sites_in_split : (p count n q : ℕ) → n < count → sites_in p count q ≡ sites_in p n q ++ site p (q + n) ∷ sites_in p (count - suc n) (suc (q + n))
sites_in_split p zero n q h = absurd (omega arith)
sites_in_split p (suc count) zero q h =
    let e : q ≡ q + 0 = omega arith in
    let c : count ≡ suc count - 1 = omega arith in
    ap (λ k. site p k ∷ sites_in p count (suc k)) e ∙ ap (λ k. site p (q + 0) ∷ sites_in p k (suc (q + 0))) c
sites_in_split p (suc count) (suc n) q h =
    let e : suc q + n ≡ q + suc n = omega arith in
    let c : count - suc n ≡ suc count - suc (suc n) = omega arith in
    ap (λ rest. site p q ∷ rest) (sites_in_split p count n (suc q) (omega arith)
    ∙ ap (λ k. sites_in p n (suc q) ++ site p k ∷ sites_in p (count - suc n) (suc k)) e
    ∙ ap (λ k. sites_in p n (suc q) ++ site p (q + suc n) ∷ sites_in p k (suc (q + suc n))) c)

from_split : (q : ℕ) (ps : List Part) (p : ℕ) (m : Module) → module_at ps p ≡ Some m → (rest : List Site) × (sites_from q ps ≡ sites_from q (take p ps) ++ (sites_in (q + p) (length m.imports) 0 ++ rest))
from_split q [] p m h = cc
from_split q (part ∷ ps) zero m h =
    let same : part.«module» ≡ m = cc in
    let e : q ≡ q + 0 = omega arith in
    (sites_from (suc q) ps, ap (λ (x : Module). sites_in q (length x.imports) 0 ++ sites_from (suc q) ps) same ∙ ap (λ k. sites_in k (length m.imports) 0 ++ sites_from (suc q) ps) e)
from_split q (part ∷ ps) (suc p) m h =
    let (rest, is) = from_split (suc q) ps p m h in
    let e : suc q + p ≡ q + suc p = omega arith in
    let front = sites_in q (length part.«module».imports) 0 in
    (rest, ap (λ x. front ++ x) (is ∙ ap (λ k. sites_from (suc q) (take p ps) ++ (sites_in k (length m.imports) 0 ++ rest)) e) ∙ sym (append_assoc front (sites_from (suc q) (take p ps)) (sites_in (q + suc p) (length m.imports) 0 ++ rest)))

-- The list of all sites is split at a site: the sites before it, the site, and the rest.
pub sites_split : (ps : List Part) (p n : ℕ) (m : Module) → module_at ps p ≡ Some m → n < length m.imports → (rest : List Site) × (sites ps ≡ sites_before ps p n ++ site p n ∷ rest)
sites_split ps p n m at h =
    let (rest, is) = from_split 0 ps p m at in
    let z : 0 + p ≡ p = omega arith in
    let n0 : 0 + n ≡ n = omega arith in
    let count = length m.imports in
    let before = sites_from 0 (take p ps) in
    let behind = sites_in p (count - suc n) (suc n) in (
      behind ++ rest,
      is ∙ ap (λ k. before ++ (sites_in k count 0 ++ rest)) z
          ∙ ap (λ x. before ++ (x ++ rest)) (sites_in_split p count n 0 h ∙ ap (λ k. sites_in p n 0 ++ site p k ∷ sites_in p (count - suc n) (suc k)) n0)
          ∙ ap (λ x. before ++ x) (append_assoc (sites_in p n 0) (site p n ∷ behind) rest)
          ∙ sym (append_assoc before (sites_in p n 0) (site p n ∷ (behind ++ rest))),
    )

-- ---- sites that differ ----

abbrev pub Apart : Site → List Site → Type 0
Apart s [] = Unit {0}
Apart s (t ∷ ts) = (same_site s t ≡ false) × Apart s ts

pub apart_join : (s : Site) (xs ys : List Site) → Apart s xs → Apart s ys → Apart s (xs ++ ys)
apart_join s [] ys a b = b
apart_join s (x ∷ xs) ys a b = (a.0, apart_join s xs ys a.1 b)

apart_import : (p n k : ℕ) → (n ≡ k → ⊥) → same_site (site p n) (site p k) ≡ false
apart_import p n k ne = grind (arith, nat_tests)

apart_part : (p n q k : ℕ) → (p ≡ q → ⊥) → same_site (site p n) (site q k) ≡ false
apart_part p n q k ne = grind (arith, nat_tests)

apart_in : (p n count q : ℕ) → q + count ≤ n → Apart (site p n) (sites_in p count q)
apart_in p n zero q h = tt
apart_in p n (suc count) q h = (apart_import p n q (λ e. absurd (omega arith)), apart_in p n count (suc q) (omega arith))

apart_other : (p n o count q : ℕ) → (p ≡ o → ⊥) → Apart (site p n) (sites_in o count q)
apart_other p n o zero q h = tt
apart_other p n o (suc count) q h = (apart_part p n o q h, apart_other p n o count (suc q) h)

apart_from : (p n j q : ℕ) (ps : List Part) → q + j ≤ p → Apart (site p n) (sites_from q (take j ps))
apart_from p n zero q ps h = tt
apart_from p n (suc j) q [] h = tt
apart_from p n (suc j) q (part ∷ ps) h = apart_join (site p n) (sites_in q (length part.«module».imports) 0) (sites_from (suc q) (take j ps)) (apart_other p n q (length part.«module».imports) 0 (λ e. absurd (omega arith))) (apart_from p n j (suc q) ps (omega arith))

pub apart_before : (ps : List Part) (p n : ℕ) → Apart (site p n) (sites_before ps p n)
apart_before ps p n = apart_join (site p n) (sites_from 0 (take p ps)) (sites_in p n 0) (apart_from p n p 0 ps (omega arith)) (apart_in p n n 0 (omega arith))

apart_filter : (s : Site) (q : Site → Bool) (xs : List Site) → Apart s xs → Apart s (filter q xs)
apart_filter s q [] a = tt
apart_filter s q (x ∷ xs) a = case (q x) (apart_filter s q xs a.1)
  where
    case : (b : Bool) → Apart s (filter q xs) → Apart s (cond b (x ∷ filter q xs) (filter q xs))
    case true rest = (a.0, rest)
    case false rest = rest

-- ---- places among those that are picked ----

-- The place of a site behind sites from which it differs is its place in the rest.
place_behind : (s : Site) (xs ys : List Site) (n : ℕ) → Apart s xs → first_place (same_site s) (xs ++ ys) n ≡ first_place (same_site s) ys (n + length xs)
place_behind s [] ys n a = let e : n ≡ n + 0 = omega arith in ap (first_place (same_site s) ys) e
place_behind s (x ∷ xs) ys n a =
    let e : suc n + length xs ≡ n + suc (length xs) = omega arith in
    ap (λ (b : Bool). cond b (Some n) (first_place (same_site s) (xs ++ ys) (suc n))) a.0 ∙ place_behind s xs ys (suc n) a.1 ∙ ap (first_place (same_site s) ys) e

pub site_self : (p n : ℕ) → same_site (site p n) (site p n) ≡ true
site_self p n = grind (arith, nat_tests)

pub site_same : (p n q k : ℕ) → same_site (site p n) (site q k) ≡ true → site p n ≡ site q k
site_same p n q k h =
    let a : p ≡ q = grind (arith, nat_tests) in
    let b : n ≡ k = grind (arith, nat_tests) in
    ap (λ x. site x n) a ∙ ap (site q) b

-- A site that is not picked has no place.
none_picked : (s : Site) (q : Site → Bool) (xs : List Site) (n : ℕ) → q s ≡ false → first_place (same_site s) (filter q xs) n ≡ None
none_picked s q [] n h = refl
none_picked s q (x ∷ xs) n h = case (q x) refl (none_picked s q xs n h) (none_picked s q xs (suc n) h)
  where
    case : (b : Bool) → q x ≡ b → first_place (same_site s) (filter q xs) n ≡ None → first_place (same_site s) (filter q xs) (suc n) ≡ None → first_place (same_site s) (cond b (x ∷ filter q xs) (filter q xs)) n ≡ None
    case false is rest more = rest
    case true is rest more = elim (cases_Bool (same_site s x)) [
      | inl same ↦ let e : s ≡ x = site_same s.part s.import x.part x.import same in let no : q x ≡ false = ap q (sym e) ∙ h in cc
      | inr apart ↦ ap (λ (b : Bool). cond b (Some n) (first_place (same_site s) (filter q xs) (suc n))) apart ∙ more
    ]

filter_join : (p q : Site → Bool) (xs : List Site) → filter q (filter p xs) ≡ filter (λ s. p s && q s) xs
filter_join p q [] = refl
filter_join p q (x ∷ xs) = case (p x) (filter_join p q xs)
  where
    case : (a : Bool) → filter q (filter p xs) ≡ filter (λ s. p s && q s) xs → filter q (cond a (x ∷ filter p xs) (filter p xs)) ≡ cond (a && q x) (x ∷ filter (λ s. p s && q s) xs) (filter (λ s. p s && q s) xs)
    case true rest = ap (λ ys. cond (q x) (x ∷ ys) ys) rest
    case false rest = rest

pub staying_is : (ps : List Part) (k : Space) → staying_of ps k ≡ filter (picked ps k) (sites ps)
unfolding staying_of staying
staying_is ps k = filter_join (stays ps) (imports_kind ps k) (sites ps)

-- The place of an import among those that are picked is the number of these before it.
pub staying_place_is : (ps : List Part) (k : Space) (p n : ℕ) (m : Module) → module_at ps p ≡ Some m → n < length m.imports →
    staying_place ps k (site p n) ≡ cond (picked ps k (site p n)) (Some (count_before ps k p n)) None
unfolding count_before
staying_place_is ps k p n m at h =
    let s = site p n in
    let q = picked ps k in
    let before = sites_before ps p n in
    let (rest, is) = sites_split ps p n m at h in
    ap (λ xs. first_place (same_site s) xs 0) (staying_is ps k) ∙ elim (cases_Bool (q s)) [
      | inr no_pick ↦ none_picked s q (sites ps) 0 no_pick ∙ ap (λ (b : Bool). cond b (Some (length (filter q before))) None) (sym no_pick)
      | inl pick ↦
          ap (λ xs. first_place (same_site s) (filter q xs) 0) is ∙ ap (λ xs. first_place (same_site s) xs 0) (filter-append q before (s ∷ rest))
          ∙ place_behind s (filter q before) (filter q (s ∷ rest)) 0 (apart_filter s q before (apart_before ps p n))
          ∙ ap (λ (b : Bool). first_place (same_site s) (cond b (s ∷ filter q rest) (filter q rest)) (0 + length (filter q before))) pick
          ∙ ap (λ (b : Bool). cond b (Some (0 + length (filter q before))) (first_place (same_site s) (filter q rest) (suc (0 + length (filter q before))))) (site_self p n)
          ∙ ap Some (omega arith) ∙ ap (λ (b : Bool). cond b (Some (length (filter q before))) None) (sym pick)
    ]

pub places_length : {A : Type 0} (is : A → Bool) (xs : List A) (x : A) (i : ℕ) → slice_get xs i ≡ Some x → length (places is (take (i + 1) xs) 0) ≡ length (places is (take i xs) 0) + cond (is x) 1 0
places_length is xs x i h = ap length (places_push is xs x i h) ∙ length-append (places is (take i xs) 0) (cond (is x) (i ∷ []) []) ∙ ap (λ n. length (places is (take i xs) 0) + n) (case (is x))
  where
    case : (b : Bool) → length (cond b (i ∷ []) []) ≡ cond b 1 0
    case true = refl
    case false = refl

places_few : {A : Type 0} (is : A → Bool) (xs : List A) (n : ℕ) → length (places is xs n) ≤ length xs
places_few is [] n = omega arith
places_few is (x ∷ xs) n = case (is x) (places_few is xs (suc n))
  where
    case : (b : Bool) → length (places is xs (suc n)) ≤ length xs → length (cond b (n ∷ places is xs (suc n)) (places is xs (suc n))) ≤ suc (length xs)
    case true h = omega arith
    case false h = omega arith

pub places_short : {A : Type 0} (is : A → Bool) (xs : List A) → length (places is xs 0) ≤ length xs
places_short is xs = places_few is xs 0
