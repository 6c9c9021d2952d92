-- The functions that are chosen to move are found one number at a time.
use Rattle.base_lists.proofs.Common.{◌≡◌, ℕ, ◌+◌, ◌-◌, ◌<◌, List, [], ◌∷◌, ◌++◌, length, Bool, true, false, ◌&&◌, cond, refl, sym, ap, ◌∙◌, arith, get_or, ◌≤◌, zero, suc, slice_index, map, Result, Ok, Err, IfOk, subst, not, IsStrictlyIncreasing, slice_get-get_or, lt-ltb, le-leb, not-true}
use Rattle.base_lists.proofs.Common.{length-map, right_true, filter-append, numbers_more, numbers_at, length-numbers, slice_index_is}
use Rattle.std.proofs.Common.{filter, length-append}
use Rattle.std.proofs.lemmas.List.Kept.{IsStrictlyIncreasing-filter}
use Rattle.base_lists.specs.Places.{numbers}
use Rattle.base_lists.specs.Every.{Every}
use Rattle.wasm_tree_spec.specs.Prelude.{Func, Module, imported_funcs, funcs_of}
use Rattle.split_plan.specs.SegmentReferences.{uses_segment}
use Rattle.split_plan.specs.declared.plans.Plan.{Plan}
use Rattle.split_plan.specs.NamedFunctions.{is_defined}
use Rattle.split_plan.specs.PlannedMoves.{body_uses_segment, defined_funcs, plan_for, IsPlan, WhatIsPlannedIsAPlan}

-- A step of the loop: one more number is tested, and kept if it passes.
pub filter_more : (test : ℕ → Bool) (first at : ℕ) (b : Bool) (old new : List ℕ) → test (first + at) ≡ b → new ≡ old ++ cond b ((first + at) ∷ []) [] → old ≡ filter test (numbers first at) → new ≡ filter test (numbers first (at + 1))
filter_more test first at b old new is more h =
    more ∙ ap (λ xs. xs ++ cond b ((first + at) ∷ []) []) h
    ∙ ap (λ c. filter test (numbers first at) ++ cond c ((first + at) ∷ []) []) (sym is)
    ∙ sym (filter-append test (numbers first at) ((first + at) ∷ []))
    ∙ ap (filter test) (sym (numbers_more first at))

-- A defined function uses a segment exactly where its body in the module's list of functions does.
pub body_at : (m : Module) (first at : ℕ) (f : Func) → first ≡ length (imported_funcs m.imports) → at < length m.funcs → f ≡ get_or m.funcs at f → body_uses_segment m (first + at) ≡ uses_segment f.body
body_at m first at f begins lt is =
    let same : first + at - length (imported_funcs m.imports) ≡ at = omega arith in
    rw (same, slice_get-get_or m.funcs at f lt, sym is) refl

pub both : {a b c d : Bool} → a ≡ b → c ≡ d → a && c ≡ b && d
both {a} {b} {c} {d} e f = ap (λ x. x && c) e ∙ ap (λ y. b && y) f

-- ---- plans

-- Two tests that agree on a range of numbers keep the same numbers of it.
pub filter_alike : (test other : ℕ → Bool) (first count : ℕ) → ((n : ℕ) → first ≤ n → n < first + count → test n ≡ other n) → filter test (numbers first count) ≡ filter other (numbers first count)
filter_alike test other first zero same = refl
filter_alike test other first (suc count) same =
    ap (λ b. cond b (first ∷ filter test (numbers (suc first) count)) (filter test (numbers (suc first) count))) (same first (omega arith) (omega arith))
    ∙ ap (λ xs. cond (other first) (first ∷ xs) xs) (filter_alike test other (suc first) count (λ n le lt. same n (omega arith) (omega arith)))

pub plan_alike : (m : Module) (wanted other : ℕ → Bool) → ((n : ℕ) → length (imported_funcs m.imports) ≤ n → n < length (imported_funcs m.imports) + length m.funcs → wanted n ≡ other n) → plan_for m wanted ≡ plan_for m other
plan_alike m wanted other same =
    let first = length (imported_funcs m.imports) in
    let moved = filter_alike (λ f. wanted f && not (body_uses_segment m f)) (λ f. other f && not (body_uses_segment m f)) first (length m.funcs) (λ n le lt. ap (λ b. b && not (body_uses_segment m n)) (same n le lt)) in
    let kept = filter_alike (λ f. wanted f && body_uses_segment m f) (λ f. other f && body_uses_segment m f) first (length m.funcs) (λ n le lt. ap (λ b. b && body_uses_segment m n) (same n le lt)) in
    ap (λ xs. record { moved = xs; kept = filter (λ f. wanted f && body_uses_segment m f) (defined_funcs m) }) moved
    ∙ ap (λ ys. record { moved = filter (λ f. other f && not (body_uses_segment m f)) (defined_funcs m); kept = ys }) kept

-- ---- the shape of a plan

numbers_rise : (first count : ℕ) → IsStrictlyIncreasing (numbers first count)
numbers_rise first count k lt =
    let here = numbers_value first count k (omega (arith, length-numbers first count)) in
    let next = numbers_value first count (k + 1) (omega (arith, length-numbers first count)) in
    omega (arith, here, next)
  where
    numbers_value : (first count k : ℕ) → k < count → slice_index (numbers first count) k ≡ first + k
    numbers_value first count k lt = slice_index_is (numbers first count) k (first + k) (numbers_at first count k lt)

every_or_not : (P : ℕ → Type 0) (b : Bool) (x : ℕ) (xs : List ℕ) → (b ≡ true → P x) → Every P xs → Every P (cond b (x ∷ xs) xs)
every_or_not P true x xs here later = (here refl, later)
every_or_not P false x xs here later = later

filter_every : (P : ℕ → Type 0) (test : ℕ → Bool) (xs : List ℕ) → Every (λ n. test n ≡ true → P n) xs → Every P (filter test xs)
filter_every P test [] h = tt
filter_every P test (x ∷ xs) h = every_or_not P (test x) x (filter test xs) h.0 (filter_every P test xs h.1)

each_number : (P : ℕ → Type 0) (first count : ℕ) → ((n : ℕ) → first ≤ n → n < first + count → P n) → Every P (numbers first count)
each_number P first zero h = tt
each_number P first (suc count) h = (h first (omega arith) (omega arith), each_number P (suc first) count (λ n le lt. h n (omega arith) (omega arith)))

is_there : (m : Module) (n : ℕ) → length (imported_funcs m.imports) ≤ n → n < length (imported_funcs m.imports) + length m.funcs → is_defined m n ≡ true
is_there m n le lt =
    let below : n < length (funcs_of m) = omega (arith, lt, length-append (imported_funcs m.imports) (map (λ (f : Func). f.ty) m.funcs), length-map m.funcs (λ (f : Func). f.ty)) in
    both (le-leb (length (imported_funcs m.imports)) n le) (lt-ltb n (length (funcs_of m)) below)

pub plan_shaped : WhatIsPlannedIsAPlan
plan_shaped m wanted =
    let first = length (imported_funcs m.imports) in
    let rises = numbers_rise first (length m.funcs) in record {
      moved_ascend = IsStrictlyIncreasing-filter (λ f. wanted f && not (body_uses_segment m f)) (defined_funcs m) rises;
      kept_ascend = IsStrictlyIncreasing-filter (λ f. wanted f && body_uses_segment m f) (defined_funcs m) rises;
      moved = filter_every (λ f. (is_defined m f ≡ true) × (body_uses_segment m f ≡ false)) (λ f. wanted f && not (body_uses_segment m f)) (defined_funcs m)
          (each_number _ first (length m.funcs) (λ n le lt h. (is_there m n le lt, not-true (body_uses_segment m n) (right_true (wanted n) (not (body_uses_segment m n)) h))));
      kept = filter_every (λ f. (is_defined m f ≡ true) × (body_uses_segment m f ≡ true)) (λ f. wanted f && body_uses_segment m f) (defined_funcs m)
          (each_number _ first (length m.funcs) (λ n le lt h. (is_there m n le lt, right_true (wanted n) (body_uses_segment m n) h)));
    }

pub result_shaped : {E : Type 0} (m : Module) (wanted : ℕ → Bool) (r : Result Plan E) → IfOk r (λ p. p ≡ plan_for m wanted) → IfOk r (λ p. IsPlan m p)
result_shaped m wanted (Ok p) h = subst (IsPlan m) (sym h) (plan_shaped m wanted)
result_shaped m wanted (Err e) h = tt
