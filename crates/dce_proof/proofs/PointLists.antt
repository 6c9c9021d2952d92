-- The elements of lists of points, and the points that a body names.
use Rattle.base_lists.proofs.Common.{◌≡◌, ◌∙◌, ap, ap₂, sym, refl, ℕ, zero, suc, List, [], ◌∷◌, ◌++◌, Option, Some, None, Bool, true, ◌&&◌, slice_get, map, Contains, cons_option, flat_map, list_all, list_all-append, Contains-append_left, Contains-append_right, slice_get-get_or, left_true}
use Rattle.base_lists.proofs.Common.{list_all_each, Has, there_contains}
use Rattle.std.proofs.Common.{filter_map}
use Rattle.base_lists.specs.Every.{Every}
use Rattle.wasm_tree_spec.specs.Prelude.{Operand, PassesInside, Instr, out-Instr, fold_out-Instr, operands_of, held, operands_pass, all_operands_pass}
use Rattle.wasm_tree.proofs.OperandLaws.{by_held, operands_map, held_map}
use Rattle.dce_graph.specs.declared.point.Point.{Point}
use Rattle.dce_graph.specs.Prelude.{operand_point, body_operands, body_points}
use Rattle.dce_graph.specs.Reach.{all_operands, operands_step}

-- ---- lists ----

pub has : {A : Type 0} (xs : List A) (x : A) → Contains xs x → Has xs x
has xs x (k, lt, e) = (k, slice_get-get_or xs k x lt ∙ ap Some e)

pub contains_joined : {A B : Type 0} (f : A → List B) (xs : List A) (n : ℕ) (x : A) (y : B) → slice_get xs n ≡ Some x → Contains (f x) y → Contains (flat_map f xs) y
contains_joined f [] n x y e h = cc
contains_joined f (z ∷ zs) zero x y e h = let same : z ≡ x = cc in Contains-append_left (f z) (flat_map f zs) y (rw same h)
contains_joined f (z ∷ zs) (suc n) x y e h = Contains-append_right (f z) (flat_map f zs) y (contains_joined f zs n x y e h)

pub contains_chosen : {A B : Type 0} (f : A → Option B) (xs : List A) (n : ℕ) (x : A) (y : B) → slice_get xs n ≡ Some x → f x ≡ Some y → Contains (filter_map f xs) y
contains_chosen f [] n x y e h = cc
contains_chosen f (z ∷ zs) zero x y e h = let same : z ≡ x = cc in let there : cons_option (f z) (filter_map f zs) ≡ y ∷ filter_map f zs = ap (λ o. cons_option o (filter_map f zs)) (ap f same ∙ h) in there_contains (filter_map f (z ∷ zs)) 0 y (ap (λ ys. slice_get ys 0) there)
contains_chosen {A} {B} f (z ∷ zs) (suc n) x y e h = by (f z) (contains_chosen f zs n x y e h)
  where
    by : (o : Option B) → Contains (filter_map f zs) y → Contains (cons_option o (filter_map f zs)) y
    by None c = c
    by (Some w) c = Contains-append_right (w ∷ []) (filter_map f zs) y c

pub none_fails : {A : Type 0} (test : A → Bool) (xs : List A) (x : A) → list_all test xs ≡ true → Contains xs x → test x ≡ true
none_fails test xs x h c = let p = has xs x c in list_all_each test xs h p.0 x p.1

pub all_mapped : {A B : Type 0} (test : B → Bool) (f : A → B) (xs : List A) → ((x : A) → test (f x) ≡ true) → list_all test (map f xs) ≡ true
all_mapped test f [] h = refl
all_mapped test f (x ∷ xs) h = ap₂ (λ a b. a && b) (h x) (all_mapped test f xs h)

pub all_joined : {A B : Type 0} (test : B → Bool) (f : A → List B) (xs : List A) → ((x : A) → list_all test (f x) ≡ true) → list_all test (flat_map f xs) ≡ true
all_joined test f [] h = refl
all_joined test f (x ∷ xs) h = list_all-append test (f x) (flat_map f xs) ∙ ap₂ (λ a b. a && b) (h x) (all_joined test f xs h)

pub all_chosen : {A B : Type 0} (test : B → Bool) (f : A → Option B) (xs : List A) → ((x : A) → list_all test (cons_option (f x) []) ≡ true) → list_all test (filter_map f xs) ≡ true
all_chosen test f [] h = refl
all_chosen {A} {B} test f (x ∷ xs) h = by (f x) (h x) (all_chosen test f xs h)
  where
    by : (o : Option B) → list_all test (cons_option o []) ≡ true → list_all test (filter_map f xs) ≡ true → list_all test (cons_option o (filter_map f xs)) ≡ true
    by None a b = b
    by (Some y) a b = ap₂ (λ p q. p && q) (left_true (test y) true a) b

-- ---- what a body names ----

-- An optional point passes a test if there is none or if the point passes it.
abbrev pub point_passes : (Point → Bool) → Option Point → Bool
point_passes test None = true
point_passes test (Some p) = test p

operands_chosen : (test : Point → Bool) (os : List Operand) → list_all test (filter_map operand_point os) ≡ list_all (λ o. point_passes test (operand_point o)) os
operands_chosen test [] = refl
operands_chosen test (o ∷ os) = by (operand_point o) (operands_chosen test os)
  where
    by : (p : Option Point) → list_all test (filter_map operand_point os) ≡ list_all (λ o. point_passes test (operand_point o)) os → list_all test (cons_option p (filter_map operand_point os)) ≡ point_passes test p && list_all (λ o. point_passes test (operand_point o)) os
    by None e = e
    by (Some p) e = ap (λ b. test p && b) e

module _ (test : Point → Bool) where
  abbrev pub passes : Operand → Bool
  passes o = point_passes test (operand_point o)

  abbrev Alike : Instr → Type 0
  Alike i = list_all passes (all_operands i) ≡ operands_pass passes i

  lists : (is : List Instr) → Every Alike is → list_all passes (body_operands is) ≡ all_operands_pass passes is
  lists [] h = refl
  lists (i ∷ is) h = list_all-append passes (all_operands i) (body_operands is) ∙ ap₂ (λ a b. a && b) h.0 (lists is h.1)

  module _ (passes_inside : PassesInside) where
    inside : (i : Instr) → Every Alike (held (out-Instr i)) → Alike i
    inside i h =
        let own_first : all_operands i ≡ operands_of i ++ body_operands (held (out-Instr i)) = fold_out-Instr (List Operand) operands_step i ∙ simp (operands_map, held_map) in
        ap (list_all passes) own_first ∙ list_all-append passes (operands_of i) (body_operands (held (out-Instr i)))
        ∙ ap (λ b. list_all passes (operands_of i) && b) (lists (held (out-Instr i)) h) ∙ sym (passes_inside passes i)

    every : (is : List Instr) → Every Alike is
    every [] = tt
    every (i ∷ is) = (by_held Alike inside i, every is)

    -- All points that a body names pass a test exactly if the operands of the body do.
    pub body_passes : (is : List Instr) → list_all test (body_points is) ≡ all_operands_pass passes is
    body_passes is = operands_chosen test (body_operands is) ∙ lists is (every is)
