-- The counts of the primary module that are tested before it is built: no more defined functions
-- are left out than move.
use Rattle.base_lists.proofs.Common.{◌≡◌, ℕ, zero, suc, ◌+◌, ◌<◌, ◌≤◌, arith, Bool, true, false, ◌||◌, not, cond, List, [], ◌∷◌, drop, map, length, nat_eq, nat_lt, Option, Some, None, refl, sym, ap, ap₂, ◌∙◌, eqb-true, ltb-true, ltb-false, lt-ltb, length-append, length-drop, length-map}
use Rattle.base_lists.proofs.Common.{filter_map_most, length-numbers}
use Rattle.base_lists.specs.Members.{is_among}
use Rattle.base_lists.specs.Places.{count_of, numbers}
use Rattle.base_kept.specs.Kept.{kept}
use Rattle.wasm_tree_spec.specs.Prelude.{Func, Module, Which, limit, func_of, funcs_of, imported_funcs}
use Rattle.wasm_tree.specs.declared.which.Which.TheVariants as which
use Rattle.index_remap.specs.Prelude.{declared, declared_refs, with_declared, new_func, renumbered_tree}
use Rattle.module_limits.specs.Counts.{or_above, over_limit}
use Rattle.split_spec.specs.Prelude.{is_needed, is_left, left_marks, primary_funcs, primary_map, primary_tree}
use Rattle.split_spec.specs.Primary.{primary_with}
use Rattle.split_slots.specs.SurveysAndDrafts.{FewFuncs, first_counts}

-- ---- what is not left ----

either_few : (a b : ℕ → Bool) (xs : List ℕ) → count_of (λ i. a i || b i) xs ≤ count_of a xs + count_of b xs
either_few a b [] = omega arith
either_few a b (x ∷ xs) = split (a x) (b x) (either_few a b xs)
  where
    split : (p q : Bool) → count_of (λ i. a i || b i) xs ≤ count_of a xs + count_of b xs →
        cond (p || q) (suc (count_of (λ i. a i || b i) xs)) (count_of (λ i. a i || b i) xs) ≤ cond p (suc (count_of a xs)) (count_of a xs) + cond q (suc (count_of b xs)) (count_of b xs)
    split true true le = omega (arith, le)
    split true false le = omega (arith, le)
    split false true le = omega (arith, le)
    split false false le = omega (arith, le)

none_past : (x a n : ℕ) → x < a → count_of (λ i. nat_eq i x) (numbers a n) ≡ 0
none_past x a zero lt = refl
none_past x a (suc n) lt = split (nat_eq a x) refl (none_past x (suc a) n (omega (arith, lt)))
  where
    split : (b : Bool) → nat_eq a x ≡ b → count_of (λ i. nat_eq i x) (numbers (suc a) n) ≡ 0 →
        cond b (suc (count_of (λ i. nat_eq i x) (numbers (suc a) n))) (count_of (λ i. nat_eq i x) (numbers (suc a) n)) ≡ 0
    split true e later = absurd (let same = eqb-true a x e in omega (arith, same, lt))
    split false e later = later

one_few : (x a n : ℕ) → count_of (λ i. nat_eq i x) (numbers a n) ≤ 1
one_few x a zero = omega arith
one_few x a (suc n) = split (nat_eq a x) refl (one_few x (suc a) n)
  where
    split : (b : Bool) → nat_eq a x ≡ b → count_of (λ i. nat_eq i x) (numbers (suc a) n) ≤ 1 →
        cond b (suc (count_of (λ i. nat_eq i x) (numbers (suc a) n))) (count_of (λ i. nat_eq i x) (numbers (suc a) n)) ≤ 1
    split true e later = let same = eqb-true a x e in let none = none_past x (suc a) n (omega (arith, same)) in omega (arith, none)
    split false e later = later

none_counted : (xs : List ℕ) → count_of (λ i. false) xs ≡ 0
none_counted [] = refl
none_counted (x ∷ xs) = none_counted xs

-- A list has at least as many places as there are functions in a range that are on it.
among_few : (moved : List ℕ) (a n : ℕ) → count_of (λ i. is_among moved i) (numbers a n) ≤ length moved
among_few [] a n = let none = none_counted (numbers a n) in omega (arith, none)
among_few (x ∷ xs) a n =
    let here = one_few x a n in
    let later = among_few xs a n in
    let both = either_few (λ i. nat_eq i x) (λ i. is_among xs i) (numbers a n) in
    omega (arith, here, later, both)

not_counted : (p q : ℕ → Bool) (xs : List ℕ) → ((i : ℕ) → p i ≡ false → q i ≡ true) → count_of not (map p xs) ≤ count_of q xs
not_counted p q [] h = omega arith
not_counted p q (x ∷ xs) h = split (p x) refl (q x) refl (not_counted p q xs h)
  where
    split : (a : Bool) → p x ≡ a → (b : Bool) → q x ≡ b → count_of not (map p xs) ≤ count_of q xs →
        cond (not a) (suc (count_of not (map p xs))) (count_of not (map p xs)) ≤ cond b (suc (count_of q xs)) (count_of q xs)
    split true e true f le = omega (arith, le)
    split true e false f le = le
    split false e true f le = omega (arith, le)
    split false e false f le = let yes = h x e in cc

rest_counted : (bs : List Bool) (n : ℕ) → count_of not (drop n bs) ≤ count_of not bs
rest_counted [] zero = omega arith
rest_counted [] (suc n) = omega arith
rest_counted (b ∷ bs) zero = omega arith
rest_counted (b ∷ bs) (suc n) = split b (rest_counted bs n)
  where
    split : (b : Bool) → count_of not (drop n bs) ≤ count_of not bs → count_of not (drop n bs) ≤ cond (not b) (suc (count_of not bs)) (count_of not bs)
    split true le = le
    split false le = omega (arith, le)

kept_least : {A : Type 0} (bs : List Bool) (xs : List A) → length bs ≡ length xs → length xs ≤ length (kept bs xs) + count_of not bs
kept_least [] [] e = omega arith
kept_least [] (x ∷ xs) e = absurd (omega (arith, e))
kept_least (b ∷ bs) [] e = absurd (omega (arith, e))
kept_least (b ∷ bs) (x ∷ xs) e = let less : length bs ≡ length xs = omega (arith, e) in split b (kept_least bs xs less)
  where
    split : (b : Bool) → length xs ≤ length (kept bs xs) + count_of not bs → suc (length xs) ≤ length (cond b (x ∷ kept bs xs) (kept bs xs)) + cond (not b) (suc (count_of not bs)) (count_of not bs)
    split true le = omega (arith, le)
    split false le = omega (arith, le)

-- ---- counts of the primary module ----

parted_many : (m : Module) (moved : List ℕ) (first : ℕ) (fs : List Func) → length (primary_funcs m moved first fs) ≡ length fs
parted_many m moved first [] = refl
parted_many m moved first (f ∷ fs) = ap suc (parted_many m moved (suc first) fs)

module _ (namespace : ℕ → List ℕ) (prefix : List ℕ) (m : Module) (moved : List ℕ) where
  abbrev u : Module
  u = renumbered_tree (primary_map m moved) (primary_tree namespace prefix m moved)

  abbrev k : ℕ
  k = length (imported_funcs m.imports)

  out_moves : (i : ℕ) → is_left m moved i ≡ false → is_among moved i ≡ true
  out_moves i e = split (is_among moved i) (is_needed m i) e
    where
      split : (a b : Bool) → (not a || b) ≡ false → a ≡ true
      split true b e = refl
      split false b e = cc

  funcs_many : length m.funcs ≤ length u.funcs + length moved
  funcs_many =
      let left = left_marks m moved in
      let all = length-append (imported_funcs m.imports) (map (λ f. f.ty) m.funcs) in
      let types = length-map m.funcs (λ f. f.ty) in
      let many : length left ≡ length (funcs_of m) = length-map (numbers 0 (length (funcs_of m))) (is_left m moved) ∙ length-numbers 0 (length (funcs_of m)) in
      let parted = parted_many m moved k m.funcs in
      let rest = length-drop k left in
      let least = kept_least (drop k left) (primary_funcs m moved k m.funcs) (omega (arith, all, types, many, parted, rest)) in
      let a = rest_counted left k in
      let b = not_counted (is_left m moved) (λ i. is_among moved i) (numbers 0 (length (funcs_of m))) out_moves in
      let c = among_few moved 0 (length (funcs_of m)) in
      let d : length u.funcs ≡ length (kept (drop k left) (primary_funcs m moved k m.funcs)) = length-map (kept (drop k left) (primary_funcs m moved k m.funcs)) (new_func (primary_map m moved)) in
      omega (arith, parted, least, a, b, c, d)

-- The first of the counts of types, imports and functions that is above its limit.
told : (types imports funcs left moved : ℕ) (w : Which) (rest : Option Which) → funcs ≤ left + moved →
    or_above types which.Types (or_above imports which.Imports (cond (nat_lt (limit which.Functions + moved) funcs) (Some which.Functions) None)) ≡ Some w →
    or_above types which.Types (or_above imports which.Imports (or_above left which.Functions rest)) ≡ Some w
told types imports funcs left moved w rest le = one (nat_lt (limit which.Types) types) (nat_lt (limit which.Imports) imports) (nat_lt (limit which.Functions + moved) funcs) refl
  where
    one : (a b c : Bool) → nat_lt (limit which.Functions + moved) funcs ≡ c → cond a (Some which.Types) (cond b (Some which.Imports) (cond c (Some which.Functions) None)) ≡ Some w →
        cond a (Some which.Types) (cond b (Some which.Imports) (or_above left which.Functions rest)) ≡ Some w
    one true b c is e = e
    one false true c is e = e
    one false false true is e =
        let lt = ltb-true (limit which.Functions + moved) funcs is in
        ap (λ z. cond z (Some which.Functions) rest) (lt-ltb (limit which.Functions) left (omega (arith, lt, le))) ∙ e
    one false false false is e = cc

same_types : (t : Module) (fs : List ℕ) → (with_declared t fs).types ≡ t.types
same_types t [] = refl
same_types t (f ∷ fs) = refl

same_funcs : (t : Module) (fs : List ℕ) → (with_declared t fs).funcs ≡ t.funcs
same_funcs t [] = refl
same_funcs t (f ∷ fs) = refl

-- A fault that the first counts report is the fault that all counts of the primary module report.
pub first_tells : (namespace : ℕ → List ℕ) (prefix : List ℕ) (m : Module) (moved : List ℕ) → length (primary_with namespace prefix m moved).imports ≡ length m.imports + length moved → (w : Which) → first_counts m (length moved) ≡ Some w →
    over_limit (primary_with namespace prefix m moved) ≡ Some w
unfolding over_limit primary_with
first_tells namespace prefix m moved many w e =
    let t = renumbered_tree (primary_map m moved) (primary_tree namespace prefix m moved) in
    let fs = declared_refs t in
    let types : length m.types ≡ length (declared t).types = ap length (sym (same_types t fs)) in
    let imports : length m.imports + length moved ≡ length (declared t).imports = sym many in
    let funcs : length (declared t).funcs ≡ length t.funcs = ap length (same_funcs t fs) in
    let least = funcs_many namespace prefix m moved in
    told (length (declared t).types) (length (declared t).imports) (length m.funcs) (length (declared t).funcs) (length moved) w _ (omega (arith, funcs, least))
    (sym (ap₂ (λ a b. or_above a which.Types (or_above b which.Imports (cond (nat_lt (limit which.Functions + length moved) (length m.funcs)) (Some which.Functions) None))) types imports) ∙ e)

within : (types imports funcs moved : ℕ) → or_above types which.Types (or_above imports which.Imports (cond (nat_lt (limit which.Functions + moved) funcs) (Some which.Functions) None)) ≡ None →
    (imports ≤ limit which.Imports) × (funcs ≤ limit which.Functions + moved)
within types imports funcs moved = one (nat_lt (limit which.Types) types) (nat_lt (limit which.Imports) imports) (nat_lt (limit which.Functions + moved) funcs) refl refl
  where
    one : (a b c : Bool) → nat_lt (limit which.Imports) imports ≡ b → nat_lt (limit which.Functions + moved) funcs ≡ c →
        cond a (Some which.Types) (cond b (Some which.Imports) (cond c (Some which.Functions) None)) ≡ None → (imports ≤ limit which.Imports) × (funcs ≤ limit which.Functions + moved)
    one true b c is at e = cc
    one false true c is at e = cc
    one false false true is at e = cc
    one false false false is at e = (ltb-false (limit which.Imports) imports is, ltb-false (limit which.Functions + moved) funcs at)

-- Where the first counts report no fault, a u32 counts the functions of the module and the moved
-- ones.
pub few_where_none : (m : Module) (moved : List ℕ) → first_counts m (length moved) ≡ None → FewFuncs m moved
few_where_none m moved e =
    let w = within (length m.types) (length m.imports + length moved) (length m.funcs) (length moved) e in
    let imports = w.0 in
    let funcs = w.1 in
    let most = filter_map_most (λ i. func_of i.desc) m.imports in
    let all = length-append (imported_funcs m.imports) (map (λ f. f.ty) m.funcs) in
    let types = length-map m.funcs (λ f. f.ty) in
    omega (arith, imports, funcs, most, all, types)
