-- The parts of an instruction that is in range: its operands, its other numbers, and the
-- instructions that it holds.
use Rattle.base_lists.proofs.Common.{◌≡◌, arith, ℕ, Bool, true, false, ◌||◌, not, nat_eq, List, [], ◌∷◌, ◌++◌, refl, sym, ap, ◌∙◌, subst, list_all, if◌then◌else◌, nat_tests, and_from, left_true, right_true}
use Rattle.base_lists.specs.Every.{Every}
use Rattle.wasm_tree_spec.specs.Prelude.{Space, Memories, Operand, BlockType, Instr, fold_out-Instr, map-Instr, Block, Loop, If, outs-Block, outs-Loop, outs-If, same_space, operands, operands_of, block_operands, held, map_operands, operands_pass, all_operands_pass, is_memory_zero, memory_zero_all}
use Rattle.wasm_tree_spec.specs.Prelude.{PassesInside}
use Rattle.wasm_tree.specs.declared.instr.Instr.{out-Instr}
use Rattle.wasm_tree.specs.declared.instr.Instr.TheOpen.{Instr-F}
use Rattle.wasm_tree.specs.Operands.{map_block, mapped}
use Rattle.wasm_tree.proofs.OperandLaws.{tested_inside, mapped_all_same, passes_both, passes_more}
use Rattle.wasm_write_proof.specs.Ranges.{small, small_operand, spelled_operand, small_numbers, numbers_in, all_numbers_in, spellable, all_spellable, all_in_range, NumbersStay, NumbersInside}

numbers_map : {X Y : Type 0} (g : X → Y) (layer : Instr-F X) → small_numbers (map-Instr X Y g layer) ≡ small_numbers layer
numbers_map g (Instr-F.Block ty body) = refl
numbers_map g layer = refl

pub numbers_inside : NumbersInside
numbers_inside i = tested_inside small_numbers small_numbers (λ g l. numbers_map g l) i

numbers_moved : (f : Space → ℕ → ℕ) (layer : Instr-F Instr) → small_numbers (out-Instr (map_operands f layer)) ≡ small_numbers layer
unfolding out-Instr denote.Hole.Carrier.out
numbers_moved f (Instr-F.Block ty body) = ap small_numbers (outs-Block (map_block f ty) body)
numbers_moved f (Instr-F.Loop ty body) = ap small_numbers (outs-Loop (map_block f ty) body)
numbers_moved f (Instr-F.If ty body other) = ap small_numbers (outs-If (map_block f ty) body other)
numbers_moved f layer = refl

own_numbers : (f : Space → ℕ → ℕ) (i : Instr) → small_numbers (out-Instr (mapped f i)) ≡ small_numbers (out-Instr i)
own_numbers f i =
    ap (λ x. small_numbers (out-Instr x)) (fold_out-Instr Instr (map_operands f) i) ∙ numbers_moved f (map-Instr Instr Instr (mapped f) (out-Instr i)) ∙ numbers_map (mapped f) (out-Instr i)

pub numbers_stay : NumbersStay
numbers_stay f = mapped_all_same f numbers_in numbers_in small_numbers small_numbers numbers_inside numbers_inside (own_numbers f)

-- ---- operands ----

abbrev pub Small : List Operand → Type 0
Small os = Every (λ o. spelled_operand o ≡ true) os

each_small : (os : List Operand) → list_all spelled_operand os ≡ true → Small os
each_small [] h = tt
each_small (o ∷ os) h = (left_true (spelled_operand o) _ h, each_small os (right_true (spelled_operand o) _ h))

all_small : (os : List Operand) → Small os → list_all spelled_operand os ≡ true
all_small [] h = refl
all_small (o ∷ os) h = and_from (spelled_operand o) (list_all spelled_operand os) h.0 (all_small os h.1)

-- ---- code ----

pub first_in : (i : Instr) (is : List Instr) → all_spellable (i ∷ is) ≡ true → spellable i ≡ true
first_in i is h =
    let o = left_true (all_operands_pass spelled_operand (i ∷ is)) (all_numbers_in (i ∷ is)) h in
    let n = right_true (all_operands_pass spelled_operand (i ∷ is)) (all_numbers_in (i ∷ is)) h in
    and_from (operands_pass spelled_operand i) (numbers_in i) (left_true (operands_pass spelled_operand i) _ o) (left_true (numbers_in i) _ n)

pub rest_in : (i : Instr) (is : List Instr) → all_spellable (i ∷ is) ≡ true → all_spellable is ≡ true
rest_in i is h =
    let o = left_true (all_operands_pass spelled_operand (i ∷ is)) (all_numbers_in (i ∷ is)) h in
    let n = right_true (all_operands_pass spelled_operand (i ∷ is)) (all_numbers_in (i ∷ is)) h in
    and_from (all_operands_pass spelled_operand is) (all_numbers_in is) (right_true (operands_pass spelled_operand i) _ o) (right_true (numbers_in i) _ n)

pub more_in : (i : Instr) (is : List Instr) → spellable i ≡ true → all_spellable is ≡ true → all_spellable (i ∷ is) ≡ true
more_in i is h k =
    and_from (all_operands_pass spelled_operand (i ∷ is)) (all_numbers_in (i ∷ is))
    (and_from (operands_pass spelled_operand i) (all_operands_pass spelled_operand is) (left_true (operands_pass spelled_operand i) _ h) (left_true (all_operands_pass spelled_operand is) _ k))
    (and_from (numbers_in i) (all_numbers_in is) (right_true (operands_pass spelled_operand i) _ h) (right_true (all_operands_pass spelled_operand is) _ k))

pub front_in : (is js : List Instr) → all_spellable (is ++ js) ≡ true → all_spellable is ≡ true
front_in [] js h = refl
front_in (i ∷ is) js h = more_in i is (first_in i (is ++ js) h) (front_in is js (rest_in i (is ++ js) h))

pub back_in : (is js : List Instr) → all_spellable (is ++ js) ≡ true → all_spellable js ≡ true
back_in [] js h = h
back_in (i ∷ is) js h = back_in is js (rest_in i (is ++ js) h)

pub joined_in : (is js : List Instr) → all_spellable is ≡ true → all_spellable js ≡ true → all_spellable (is ++ js) ≡ true
joined_in [] js h k = k
joined_in (i ∷ is) js h k = more_in i (is ++ js) (first_in i is h) (joined_in is js (rest_in i is h) k)

-- ---- an instruction by its layer ----

abbrev pub LayerInRange : Instr-F Instr → Type 0
LayerInRange l = Small (operands l) × (small_numbers l ≡ true) × (all_spellable (held l) ≡ true)

pub layer_of : PassesInside → (i : Instr) → spellable i ≡ true → LayerInRange (out-Instr i)
layer_of inside i h =
    let xs = held (out-Instr i) in
    let o = sym (inside spelled_operand i) ∙ left_true (operands_pass spelled_operand i) _ h in
    let n = sym (numbers_inside i) ∙ right_true (operands_pass spelled_operand i) _ h in (
      each_small (operands_of i) (left_true (list_all spelled_operand (operands_of i)) _ o),
      left_true (small_numbers (out-Instr i)) _ n,
      and_from (all_operands_pass spelled_operand xs) (all_numbers_in xs) (right_true (list_all spelled_operand (operands_of i)) _ o) (right_true (small_numbers (out-Instr i)) _ n),
    )

pub of_layer : PassesInside → (i : Instr) → LayerInRange (out-Instr i) → spellable i ≡ true
of_layer inside i (o, n, h) =
    let xs = held (out-Instr i) in
    and_from (operands_pass spelled_operand i) (numbers_in i)
    (inside spelled_operand i ∙ and_from (list_all spelled_operand (operands_of i)) (all_operands_pass spelled_operand xs) (all_small (operands_of i) o) (left_true (all_operands_pass spelled_operand xs) _ h))
    (numbers_inside i ∙ and_from (small_numbers (out-Instr i)) (all_numbers_in xs) n (right_true (all_operands_pass spelled_operand xs) _ h))

pub block_in : PassesInside → (ty : BlockType) (body : List Instr) → Small (block_operands ty) → all_spellable body ≡ true → spellable (Block ty body) ≡ true
block_in inside ty body h k = of_layer inside (Block ty body) (subst LayerInRange (sym (outs-Block ty body)) (h, refl, k))

pub loop_in : PassesInside → (ty : BlockType) (body : List Instr) → Small (block_operands ty) → all_spellable body ≡ true → spellable (Loop ty body) ≡ true
loop_in inside ty body h k = of_layer inside (Loop ty body) (subst LayerInRange (sym (outs-Loop ty body)) (h, refl, k))

pub if_in : PassesInside → (ty : BlockType) (body other : List Instr) → Small (block_operands ty) → all_spellable body ≡ true → all_spellable other ≡ true → spellable (If ty body other) ≡ true
if_in inside ty body other h k l = of_layer inside (If ty body other) (subst LayerInRange (sym (outs-If ty body other)) (h, refl, joined_in body other k l))

-- ---- code in range that names memory 0 alone, and encoded code ----

both_spelled : (s : Space) (n : ℕ) → small n ≡ true → not (same_space s Memories) || nat_eq n 0 ≡ true → (if same_space s Memories then nat_eq n 0 else small n) ≡ true
both_spelled s n h k = by_space (same_space s Memories) k
  where
    by_space : (b : Bool) → not b || nat_eq n 0 ≡ true → (if b then nat_eq n 0 else small n) ≡ true
    by_space true z = z
    by_space false z = h

pub spelled_small : (s : Space) (n : ℕ) → (if same_space s Memories then nat_eq n 0 else small n) ≡ true → small n ≡ true
spelled_small s n h = by_space (same_space s Memories) h
  where
    by_space : (b : Bool) → (if b then nat_eq n 0 else small n) ≡ true → small n ≡ true
    by_space true z = grind (arith, nat_tests)
    by_space false z = z

pub spelled_zero : (s : Space) (n : ℕ) → (if same_space s Memories then nat_eq n 0 else small n) ≡ true → not (same_space s Memories) || nat_eq n 0 ≡ true
spelled_zero s n h = by_space (same_space s Memories) h
  where
    by_space : (b : Bool) → (if b then nat_eq n 0 else small n) ≡ true → not b || nat_eq n 0 ≡ true
    by_space true z = z
    by_space false z = refl

pub spellable_of : (is : List Instr) → all_in_range is ≡ true → memory_zero_all is ≡ true → all_spellable is ≡ true
spellable_of is h z =
    and_from (all_operands_pass spelled_operand is) (all_numbers_in is)
    (passes_both small_operand is_memory_zero spelled_operand (λ o a b. both_spelled o.space o.index a b) is (left_true (all_operands_pass small_operand is) _ h) z)
    (right_true (all_operands_pass small_operand is) _ h)

pub in_range_of : (is : List Instr) → all_spellable is ≡ true → all_in_range is ≡ true
in_range_of is h =
    and_from (all_operands_pass small_operand is) (all_numbers_in is)
    (passes_more spelled_operand small_operand (λ o a. spelled_small o.space o.index a) is (left_true (all_operands_pass spelled_operand is) _ h))
    (right_true (all_operands_pass spelled_operand is) _ h)
