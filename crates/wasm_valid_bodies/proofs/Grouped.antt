-- The type of a declared local is that of the first group that ends above it.
use Rattle.base_lists.proofs.Common.{◌≡◌, ℕ, zero, suc, ◌+◌, ◌-◌, ◌<◌, ◌≤◌, arith, List, [], ◌∷◌, ◌++◌, length, Some, refl, sym, ap, ◌∙◌, subst, slice_get, slice_index, replicate, option_map, length-replicate}
use Rattle.wasm_tree_spec.specs.Prelude.{ValType, LocalGroup}
use Rattle.wasm_valid_bodies.specs.Groups.{declared_types, locals_of, ends_of, IsAscending, IsFirstAbove}

behind : {A : Type 0} (xs ys : List A) (i j : ℕ) → i ≡ length xs + j → slice_get (xs ++ ys) i ≡ slice_get ys j
behind [] ys i j e = let same : i ≡ j = omega arith in ap (slice_get ys) same
behind (x ∷ xs) ys zero j e = absurd (omega arith)
behind (x ∷ xs) ys (suc i) j e = behind xs ys i j (omega arith)

inside : {A : Type 0} (n : ℕ) (x : A) (ys : List A) (i : ℕ) → i < n → slice_get (replicate n x ++ ys) i ≡ Some x
inside zero x ys i lt = absurd (omega arith)
inside (suc n) x ys zero lt = refl
inside (suc n) x ys (suc i) lt = inside n x ys i (omega arith)

declared_at : (n : ℕ) (gs : List LocalGroup) (y place : ℕ) → place ≤ length (ends_of n gs) → ((k : ℕ) → k < place → slice_index (ends_of n gs) k ≤ n + y) → (place < length (ends_of n gs) → n + y < slice_index (ends_of n gs) place) →
    option_map (λ g. g.ty) (slice_get gs place) ≡ slice_get (declared_types gs) y
declared_at n [] y place within before after = refl
declared_at n (g ∷ gs) y zero within before after =
    let lt : y < g.count = omega (arith, after (omega arith)) in sym (inside g.count g.ty (declared_types gs) y lt)
declared_at n (g ∷ gs) y (suc place) within before after =
    let first : n + g.count ≤ n + y = before 0 (omega arith) in
    let z = y - g.count in
    let split : y ≡ g.count + z = omega arith in
    let rest : n + y ≡ (n + g.count) + z = omega arith in
    let count : y ≡ length (replicate g.count g.ty) + z = split ∙ ap (λ m. m + z) (sym (length-replicate g.count g.ty)) in
    declared_at (n + g.count) gs z place (omega (arith, within)) (λ k lt. subst (λ m. slice_index (ends_of (n + g.count) gs) k ≤ m) rest (before (suc k) (omega arith)))
    (λ lt. subst (λ m. m < slice_index (ends_of (n + g.count) gs) place) rest (after (omega arith)))
    ∙ sym (behind (replicate g.count g.ty) (declared_types gs) y z count)

pub local_at : (params : List ValType) (gs : List LocalGroup) (ends : List ℕ) (x place : ℕ) → ends ≡ ends_of (length params) gs → length params ≤ x → IsFirstAbove ends x place → option_map (λ g. g.ty) (slice_get gs place) ≡ slice_get (locals_of params gs) x
local_at params gs ends x place e le above =
    let y = x - length params in
    let split : length params + y ≡ x = omega arith in
    let found = subst (λ zs. IsFirstAbove zs x place) e above in
    declared_at (length params) gs y place found.within (λ k lt. subst (λ m. slice_index (ends_of (length params) gs) k ≤ m) (sym split) (found.before k lt))
    (λ lt. subst (λ m. m < slice_index (ends_of (length params) gs) place) (sym split) (found.after place (omega arith) lt))
    ∙ sym (behind params (declared_types gs) x y (sym split))

least : (n : ℕ) (gs : List LocalGroup) (i : ℕ) → i < length (ends_of n gs) → n ≤ slice_index (ends_of n gs) i
least n [] i lt = absurd (omega arith)
least n (g ∷ gs) zero lt = omega arith
least n (g ∷ gs) (suc i) lt = omega (arith, least (n + g.count) gs i (omega arith))

ascending : (n : ℕ) (gs : List LocalGroup) → IsAscending (ends_of n gs)
ascending n [] i j le lt = absurd (omega arith)
ascending n (g ∷ gs) zero zero le lt = omega arith
ascending n (g ∷ gs) zero (suc j) le lt = least (n + g.count) gs j (omega arith)
ascending n (g ∷ gs) (suc i) zero le lt = absurd (omega arith)
ascending n (g ∷ gs) (suc i) (suc j) le lt = ascending (n + g.count) gs i j (omega arith) (omega arith)

pub ends_ascend : (n : ℕ) (gs : List LocalGroup) (ends all : List ℕ) → ends ≡ all → all ≡ ends_of n gs → IsAscending ends
ends_ascend n gs ends all e f = subst IsAscending (sym (e ∙ f)) (ascending n gs)
