-- Code whose parts are in range is in range.
use Rattle.base_lists.proofs.Common.{◌≡◌, ◌∙◌, ap, ℕ, List, [], ◌∷◌, true, ◌&&◌, ◌^◌, Result, Ok, Err, refl, rules, OnOk, IsTrue, list_all, and_from, lt-ltb, list_all-append, list_all_from, every_at, left_true, right_true}
use Rattle.std.specs.List.{push}
use Rattle.base_lists.specs.Every.{Every}
use Rattle.wasm_tree_spec.specs.Prelude.{BlockType, Instr, the_lemmas, Block, Loop, If, BrTable, outs-Block, outs-Loop, outs-If, block_operands, held, operands_pass, all_operands_pass}
use Rattle.wasm_tree.specs.OperandLaws.{BlockPasses, LoopPasses, IfPasses}
use Rattle.wasm_write_proof.specs.Ranges.{small, IsU32, small_operand, small_numbers, numbers_in, all_numbers_in, in_range, all_in_range, NumbersInside}

pub on_ok : {A E P Q : Type 0} (r : Result A E) → (P → Q) → OnOk r P → OnOk r Q
on_ok (Ok a) f h = f h
on_ok (Err e) f h = tt

pub both_ok : {A E P Q R : Type 0} (r : Result A E) → (P → Q → R) → OnOk r P → OnOk r Q → OnOk r R
both_ok (Ok a) f h k = f h k
both_ok (Err e) f h k = tt

operands_of_all : (is : List Instr) → all_in_range is ≡ true → all_operands_pass small_operand is ≡ true
operands_of_all is h = left_true (all_operands_pass small_operand is) (all_numbers_in is) h

numbers_of_all : (is : List Instr) → all_in_range is ≡ true → all_numbers_in is ≡ true
numbers_of_all is h = right_true (all_operands_pass small_operand is) (all_numbers_in is) h

pub block_in_range : BlockPasses → NumbersInside → (ty : BlockType) (body : List Instr) → all_in_range body ≡ true → IsTrue (list_all small_operand (block_operands ty)) → in_range (Block ty body) ≡ true
block_in_range passes inside ty body h k =
    and_from (operands_pass small_operand (Block ty body)) (numbers_in (Block ty body))
    (passes small_operand ty body ∙ and_from (list_all small_operand (block_operands ty)) (all_operands_pass small_operand body) k (operands_of_all body h))
    (inside (Block ty body) ∙ ap (λ l. small_numbers l && all_numbers_in (held l)) (outs-Block ty body) ∙ numbers_of_all body h)

pub loop_in_range : LoopPasses → NumbersInside → (ty : BlockType) (body : List Instr) → all_in_range body ≡ true → IsTrue (list_all small_operand (block_operands ty)) → in_range (Loop ty body) ≡ true
loop_in_range passes inside ty body h k =
    and_from (operands_pass small_operand (Loop ty body)) (numbers_in (Loop ty body))
    (passes small_operand ty body ∙ and_from (list_all small_operand (block_operands ty)) (all_operands_pass small_operand body) k (operands_of_all body h))
    (inside (Loop ty body) ∙ ap (λ l. small_numbers l && all_numbers_in (held l)) (outs-Loop ty body) ∙ numbers_of_all body h)

pub if_in_range : IfPasses → NumbersInside → (ty : BlockType) (body other : List Instr) → all_in_range body ≡ true → all_in_range other ≡ true → IsTrue (list_all small_operand (block_operands ty)) → in_range (If ty body other) ≡ true
if_in_range passes inside ty body other h g k =
    and_from (operands_pass small_operand (If ty body other)) (numbers_in (If ty body other))
    (passes small_operand ty body other
    ∙ and_from (list_all small_operand (block_operands ty)) (all_operands_pass small_operand body && all_operands_pass small_operand other) k
    (and_from (all_operands_pass small_operand body) (all_operands_pass small_operand other) (operands_of_all body h) (operands_of_all other g)))
    (inside (If ty body other) ∙ ap (λ l. small_numbers l && all_numbers_in (held l)) (outs-If ty body other)
    ∙ list_all-append numbers_in body other ∙ and_from (all_numbers_in body) (all_numbers_in other) (numbers_of_all body h) (numbers_of_all other g))

pub table_in_range : (labels : List ℕ) (last : ℕ) → IsU32 last → Every IsU32 labels → in_range (BrTable labels last) ≡ true
table_in_range labels last h k =
    let few : list_all small labels ≡ true = list_all_from small labels (λ n x at. lt-ltb x (2 ^ 32) (every_at IsU32 labels n x k at)) in
    let s = and_from (list_all small labels) (small last) few (lt-ltb last (2 ^ 32) h) in search (rules, the_lemmas, s)

-- ---- one more instruction after others

pub push_in_range : (is : List Instr) (i : Instr) → all_in_range is ≡ true → in_range i ≡ true → all_in_range (push is i) ≡ true
push_in_range is i h k =
    let o = left_true (operands_pass small_operand i) (numbers_in i) k in
    let n = right_true (operands_pass small_operand i) (numbers_in i) k in
    and_from (all_operands_pass small_operand (push is i)) (all_numbers_in (push is i))
    (list_all-append (operands_pass small_operand) is (i ∷ []) ∙ and_from (all_operands_pass small_operand is) (all_operands_pass small_operand (i ∷ [])) (operands_of_all is h) (and_from (operands_pass small_operand i) true o refl))
    (list_all-append numbers_in is (i ∷ []) ∙ and_from (all_numbers_in is) (all_numbers_in (i ∷ [])) (numbers_of_all is h) (and_from (numbers_in i) true n refl))
