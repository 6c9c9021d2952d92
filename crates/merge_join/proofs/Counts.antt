-- The numbers of imports that stay and of entities that are defined before a place.
use Rattle.base_lists.proofs.Common.{◌≡◌, ◌∙◌, sym, ap, refl, ℕ, suc, ◌+◌, ◌<◌, ◌≤◌, List, [], ◌∷◌, ◌++◌, length, take, arith, Bool, true, false, cond, Some, append_assoc, append-nil, flat_map, length-append, take_all, filter-append}
use Rattle.wasm_tree_spec.specs.Prelude.{Space, Types, Module}
use Rattle.std.specs.Prelude.{filter}
use Rattle.wasm_meaning.specs.Counted.{EachPartAddsItsDefinitions}
use Rattle.wasm_meaning.specs.Prelude.{defined_count, defined_before, Part, Site, module_at, sites_in, sites_from, sites}
use Rattle.merge_spec.specs.declared.parts.Part as declared
use Rattle.merge_spec.specs.Prelude.{named_modules, stays, imports_kind}
use Rattle.merge_spec.specs.Merged.{staying, staying_of}
use Rattle.base_lists.specs.Places.{count_of}
use Rattle.merge_join.specs.LinkedParts.{site}
use Rattle.merge_join.specs.Spaces.{picked, sites_before, count_before}
use Rattle.merge_join.proofs.ByPart.{named_length, part_more}
use Rattle.merge_join.proofs.Sites.{sites_in_more, sites_split, staying_is}
use Rattle.merge_proof.proofs.ListsByPart.{by_part_is}

-- ---- imports ----

pub count_more : (ps : List Part) (k : Space) (p n : ℕ) → count_before ps k p (n + 1) ≡ count_before ps k p n + cond (picked ps k (site p n)) 1 0
unfolding count_before
count_more ps k p n =
    let q = picked ps k in
    let s = site p n in
    let before = sites_from 0 (take p ps) in
    ap (λ xs. length (filter q xs)) (ap (λ xs. before ++ xs) (sites_in_more p n) ∙ sym (append_assoc before (sites_in p n 0) (s ∷ [])))
    ∙ ap length (filter-append q (sites_before ps p n) (s ∷ [])) ∙ length-append (filter q (sites_before ps p n)) (filter q (s ∷ []))
    ∙ ap (λ c. length (filter q (sites_before ps p n)) + c) (case (q s))
  where
    case : (b : Bool) → length (cond b (site p n ∷ []) []) ≡ cond b 1 0
    case true = refl
    case false = refl

sites_push : (ps : List Part) (p : ℕ) (m : Module) → module_at ps p ≡ Some m → sites_from 0 (take (p + 1) ps) ≡ sites_from 0 (take p ps) ++ sites_in p (length m.imports) 0
sites_push ps p m at =
    let are = by_part_is sites_from (λ p m. sites_in p (length m.imports) 0) (λ q. refl) (λ q part ps. refl) 0 in
    are (take (p + 1) ps) ∙ sym (part_more (λ p m. sites_in p (length m.imports) 0) ps p m (sites_from 0 (take p ps)) (sites_from 0 (take p ps) ++ sites_in p (length m.imports) 0) at (are (take p ps)) refl)

pub count_part : (ps : List Part) (k : Space) (p : ℕ) (m : Module) → module_at ps p ≡ Some m → count_before ps k p (length m.imports) ≡ count_before ps k (p + 1) 0
unfolding count_before
count_part ps k p m at = ap (λ xs. length (filter (picked ps k) xs)) (sym (append-nil (sites_from 0 (take (p + 1) ps)) ∙ sites_push ps p m at))

pub count_all : (parts : List declared.Part) (k : Space) (p : ℕ) → length parts ≤ p → count_before (named_modules parts) k p 0 ≡ length (staying_of (named_modules parts) k)
unfolding count_before
count_all parts k p end =
    let ps = named_modules parts in
    ap (λ xs. length (filter (picked ps k) xs)) (append-nil (sites_from 0 (take p ps)) ∙ ap (sites_from 0) (take_all p ps (omega (arith, named_length parts)))) ∙ ap length (sym (staying_is ps k))

-- The imports that stay before an import, and that import if it stays, are at most all that stay.
pub count_few : (ps : List Part) (k : Space) (p n : ℕ) (m : Module) → module_at ps p ≡ Some m → n < length m.imports → count_before ps k p n + cond (picked ps k (site p n)) 1 0 ≤ length (staying_of ps k)
unfolding count_before
count_few ps k p n m at h =
    let q = picked ps k in
    let s = site p n in
    let before = sites_before ps p n in
    let (rest, is) = sites_split ps p n m at h in
    let all = ap length (staying_is ps k ∙ ap (filter q) is ∙ filter-append q before (s ∷ rest)) ∙ length-append (filter q before) (filter q (s ∷ rest)) in
    omega (arith, all, here (q s) (filter q rest))
  where
    here : (b : Bool) (ss : List Site) → cond b 1 0 ≤ length (cond b (site p n ∷ ss) ss)
    here true ss = omega arith
    here false ss = omega arith

both_few : {A : Type 0} (f g : A → Bool) (xs : List A) → length (filter f (filter g xs)) ≤ count_of f xs
both_few f g [] = omega arith
both_few {A} f g (x ∷ xs) = by (g x) (both_few f g xs)
  where
    kept : (b : Bool) (ys : List A) (n : ℕ) → length ys ≤ n → length (cond b (x ∷ ys) ys) ≤ cond b (suc n) n
    kept true ys n h = omega arith
    kept false ys n h = h

    left : (b : Bool) (l n : ℕ) → l ≤ n → l ≤ cond b (suc n) n
    left true l n h = omega arith
    left false l n h = h

    by : (b : Bool) → length (filter f (filter g xs)) ≤ count_of f xs → length (filter f (cond b (x ∷ filter g xs) (filter g xs))) ≤ cond (f x) (suc (count_of f xs)) (count_of f xs)
    by true h = kept (f x) (filter f (filter g xs)) (count_of f xs) h
    by false h = left (f x) (length (filter f (filter g xs))) (count_of f xs) h

pub staying_few : (ps : List Part) (k : Space) → length (staying_of ps k) ≤ count_of (imports_kind ps k) (sites ps)
unfolding staying_of staying
staying_few ps k = both_few (imports_kind ps k) (stays ps) (sites ps)

-- ---- what is defined ----

pub defined_more : EachPartAddsItsDefinitions → (k : Space) (ps : List Part) (p : ℕ) (m : Module) → module_at ps p ≡ Some m → defined_before k ps (p + 1) ≡ defined_before k ps p + defined_count k m
defined_more next k ps p m h = let e : p + 1 ≡ suc p = omega arith in ap (defined_before k ps) e ∙ next k ps p m h

pub count_none : (ps : List Part) (k : Space) → count_before ps k 0 0 ≡ 0
unfolding count_before
count_none ps k = refl

-- ---- types ----

pub types_count : (ps : List Part) → length (flat_map (λ p. p.«module».types) ps) ≡ defined_before Types ps (length ps)
types_count [] = refl
types_count (part ∷ ps) = length-append part.«module».types (flat_map (λ p. p.«module».types) ps) ∙ ap (λ n. length part.«module».types + n) (types_count ps)
