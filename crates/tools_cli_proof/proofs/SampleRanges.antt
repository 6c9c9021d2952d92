-- The modules of a sample: how many entities of each kind they have, and that their numbers are in
-- the ranges of their types.
use Rattle.base_lists.proofs.Common.{[], ◌≡◌, ◌∙◌, refl, ap, subst, ℕ, zero, suc, ◌+◌, ◌*◌, ◌%◌, ◌^◌, ◌<◌, ◌≤◌, ◌∷◌, map, true, arith, decimal, IsUtf8, ◌&&◌, Bool, nat_lt, pos, nat_tests, IsUtf8-from_ascii, IsAscii-cons, IsAscii-nil}
use Rattle.std.proofs.lemmas.Fmt.{IsAscii-decimal}
use Rattle.base_lists.specs.Every.{Every}
use Rattle.base_lists.specs.Places.{numbers}
use Rattle.wasm_num.specs.declared.BinOp.{BinOp}
use Rattle.wasm_tree_spec.specs.Prelude.{Import, all_pass_step, fold_out-Instr, LocalGet, I32Const, Bin, Call}
use Rattle.wasm_tree.specs.declared.module.ImportDesc.TheVariants as imported
use Rattle.wasm_tree.specs.declared.instr.Instr.{out-Instr}
use Rattle.wasm_write_proof.specs.Ranges.{ImportInRange, ExportInRange, FuncInRange, InRange, all_in_range, number_step, small_operand}
use Rattle.wasm_gen.specs.Draws.{draw}
use Rattle.wasm_gen.specs.Modules.{f, numbered, exports_of, operation, joined, first_func, first_module, passed, second_func, second_module, a}
use Rattle.wasm_tree.specs.declared.module.ExportDesc.TheVariants as exported

-- ---- in range ----

every_made : {A : Type 0} (P : A → Type 0) (make : ℕ → A) (n count : ℕ) → ((i : ℕ) → i < n + count → P (make i)) → Every P (map make (numbers n count))
every_made P make n zero h = tt
every_made P make n (suc count) h = (h n (omega arith), every_made P make (suc n) count (λ i lt. h i (omega (arith, lt))))

name_in : (letter i : ℕ) → letter < 128 → i < 2 ^ 32 → IsUtf8 (numbered (letter ∷ []) i)
name_in letter i low few = IsUtf8-from_ascii (letter ∷ decimal i) (IsAscii-cons letter (decimal i) low (IsAscii-decimal i (omega (arith, few))))

exports_in : (letter index count : ℕ) → letter < 128 → index + count < 2 ^ 32 → Every ExportInRange (exports_of (letter ∷ []) index count)
exports_in letter index count low few =
    every_made ExportInRange (λ i. record { name = numbered (letter ∷ []) i; desc = exported.Func (index + i) }) 0 count (λ i lt. (name_in letter i low (omega (arith, few, lt)), omega (arith, few, lt)))

drawn_small : (seed n : ℕ) → draw seed (suc n) < 2 ^ 31
drawn_small seed n = omega arith

of_joined : (number : ℕ) (op : BinOp) → all_in_range (LocalGet 0 ∷ (I32Const (pos number) ∷ (Bin op ∷ []))) ≡ (nat_lt number (2 ^ 31) && true) && true
unfolding out-Instr denote.Hole.Carrier.out
of_joined number op = simp (fold_out-Instr Bool (all_pass_step small_operand), fold_out-Instr Bool number_step) refl

of_passed : (callee : ℕ) → all_in_range (LocalGet 0 ∷ (Call callee ∷ [])) ≡ (((nat_lt callee (2 ^ 32) && true) && true) && true) && true
unfolding out-Instr denote.Hole.Carrier.out
of_passed callee = simp (fold_out-Instr Bool (all_pass_step small_operand), fold_out-Instr Bool number_step) refl

joined_in : (number op : ℕ) → number < 2 ^ 31 → FuncInRange (joined number op)
joined_in number op few = (omega arith, (tt, let small : nat_lt number (2 ^ 31) ≡ true = grind (arith, nat_tests) in of_joined number (operation (op % 3)) ∙ ap (λ b. (b && true) && true) small))

passed_in : (callee : ℕ) → callee < 2 ^ 32 → FuncInRange (passed callee)
passed_in callee few = (omega arith, (tt, let small : nat_lt callee (2 ^ 32) ≡ true = grind (arith, nat_tests) in of_passed callee ∙ ap (λ b. (((b && true) && true) && true) && true) small))

first_funcs_in : (seed count : ℕ) → Every FuncInRange (map (first_func seed) (numbers 0 count))
first_funcs_in seed count = every_made FuncInRange (first_func seed) 0 count (λ i lt. joined_in (draw seed (i * 2 + 1)) (draw seed (i * 2 + 2)) (drawn i))
  where
    drawn : (i : ℕ) → draw seed (i * 2 + 1) < 2 ^ 31
    drawn i = let same : suc (i * 2) ≡ i * 2 + 1 = omega arith in subst (λ n. draw seed n < 2 ^ 31) same (drawn_small seed (i * 2))

pub first_in_range : (seed count : ℕ) → count ≤ 100000 → InRange (first_module seed count)
first_in_range seed count few = record {
  imports = tt;
  funcs = first_funcs_in seed count;
  tables = tt;
  mems = tt;
  globals = tt;
  exports = exports_in 102 0 count (omega arith) (omega (arith, few));
  start = tt;
  elems = tt;
  datas = tt;
}

abbrev import_at : ℕ → Import
import_at i = record { «module» = a; field = numbered f i; desc = imported.Func 0 }

pub second_in_range : (seed count : ℕ) → 1 ≤ count → count ≤ 100000 → InRange (second_module seed count)
second_in_range seed count some few = record {
  imports = every_made ImportInRange import_at 0 count (λ i lt. (IsUtf8-from_ascii a (IsAscii-cons 97 [] (omega arith) IsAscii-nil), name_in 102 i (omega arith) (omega (arith, lt, few)), omega arith));
  funcs = every_made FuncInRange (second_func (draw seed (count * 2)) count) 0 count (λ i lt. passed_in (draw (draw seed (count * 2)) (i + 1) % count) (omega (arith, some, few)));
  tables = tt;
  mems = tt;
  globals = tt;
  exports = exports_in 103 count count (omega arith) (omega (arith, few));
  start = tt;
  elems = tt;
  datas = tt;
}
