-- Numbers and modules that are in range or out of range, computed.
use Rattle.base_lists.proofs.Common.{◌≡◌, ℕ, length, replicate, refl, sym, ◌∙◌, List, [], ◌∷◌, Bool, true, false, None, arith, pos}
use Rattle.wasm_tree_spec.specs.Prelude.{Instr, fold_out-Instr, Br, I32Const, MemorySize, Module, all_pass_step, ValType, I32}
use Rattle.wasm_tree.specs.declared.instr.Instr.{out-Instr}
use Rattle.wasm_write_spec.specs.PlainValues.{vector_text, func_type_text, val_code}
use Rattle.wasm_bytes.specs.Writing.{unsigned_text}
use Rattle.wasm_write_proof.specs.SmallSizes.{SmallSection, SmallSizes}
use Rattle.wasm_write_proof.specs.TreeLimits.{WithinLimits}
use Rattle.wasm_write_proof.specs.Ranges.{InRange, all_in_range, all_spellable, number_step, small_operand, spelled_operand}

-- A module with one type of no parameters and no results, and one function of this type.
abbrev with_body : List Instr → Module
with_body body = record { types = record { params = []; results = [] } ∷ []; imports = []; funcs = record { ty = 0; locals = []; body = body } ∷ []; tables = []; mems = []; globals = []; exports = []; start = None; elems = []; datas = [] }

-- A label is below 2^32, and an i32 constant below 2^31.
greatest_numbers : all_in_range (I32Const (pos 2147483647) ∷ Br 4294967295 ∷ []) ≡ true
unfolding out-Instr denote.Hole.Carrier.out
greatest_numbers = simp (fold_out-Instr Bool (all_pass_step small_operand), fold_out-Instr Bool number_step) refl

a_greater_label : all_in_range (Br 4294967296 ∷ []) ≡ false
unfolding out-Instr denote.Hole.Carrier.out
a_greater_label = simp (fold_out-Instr Bool (all_pass_step small_operand), fold_out-Instr Bool number_step) refl

a_greater_constant : all_in_range (I32Const (pos 2147483648) ∷ []) ≡ false
unfolding out-Instr denote.Hole.Carrier.out
a_greater_constant = simp (fold_out-Instr Bool (all_pass_step small_operand), fold_out-Instr Bool number_step) refl

-- A memory other than memory 0 is in range, and is not encoded.
another_memory : all_in_range (MemorySize 1 ∷ []) ≡ true
unfolding out-Instr denote.Hole.Carrier.out
another_memory = simp (fold_out-Instr Bool (all_pass_step small_operand), fold_out-Instr Bool number_step) refl

another_memory_unspelled : all_spellable (MemorySize 1 ∷ []) ≡ false
unfolding out-Instr denote.Hole.Carrier.out
another_memory_unspelled = simp (fold_out-Instr Bool (all_pass_step spelled_operand), fold_out-Instr Bool number_step) refl

memory_zero_spelled : all_spellable (MemorySize 0 ∷ []) ≡ true
unfolding out-Instr denote.Hole.Carrier.out
memory_zero_spelled = simp (fold_out-Instr Bool (all_pass_step spelled_operand), fold_out-Instr Bool number_step) refl

in_range : InRange (with_body (I32Const (pos 2147483647) ∷ Br 4294967295 ∷ []))
in_range = record { imports = tt; funcs = ((omega arith, (tt, greatest_numbers)), tt); tables = tt; mems = tt; globals = tt; exports = tt; start = tt; elems = tt; datas = tt }

out_of_range : InRange (with_body (Br 4294967296 ∷ [])) → true ≡ false
out_of_range r = sym r.funcs.0.1.1 ∙ a_greater_label

-- A module with one function type, which has these parameters and no results.
abbrev with_type : List ValType → Module
with_type params = record { types = record { params = params; results = [] } ∷ []; imports = []; funcs = []; tables = []; mems = []; globals = []; exports = []; start = None; elems = []; datas = [] }

abbrev ints : ℕ → List ValType
ints n = replicate n I32

short : {A : Type 0} (text : A → List ℕ) → SmallSection text []
unfolding unsigned_text
short text = let e : length (vector_text text []) ≡ 1 = refl in record { items = omega arith; size = omega (arith, e) }

-- A module with one type has small sizes; it is within the limits with 1,000 parameters, and not
-- with one more.
small_sizes : SmallSizes (with_type (I32 ∷ []))
unfolding unsigned_text func_type_text val_code
small_sizes = let e : length (vector_text func_type_text (with_type (I32 ∷ [])).types) ≡ 5 = refl in record {
  types = record { items = omega arith; size = omega (arith, e) };
  imports = short _;
  func_types = short _;
  tables = short _;
  mems = short _;
  globals = short _;
  exports = short _;
  elems = short _;
  codes = short _;
  datas = short _;
  each_type = ((omega arith, omega arith), tt);
  each_import = tt;
  each_export = tt;
  each_elem = tt;
  each_func = tt;
  each_data = tt;
}

within : WithinLimits (with_type (ints 1000))
within = record { types = (omega arith, ((omega arith, omega arith), tt)); imports = omega arith; funcs = (omega arith, tt); tables = omega arith; mems = omega arith; globals = omega arith; exports = omega arith; elems = omega arith; datas = omega arith }

a_parameter_too_many : WithinLimits (with_type (ints 1001)) → ⊥
a_parameter_too_many w = omega (arith, w.types.1.0.0)
