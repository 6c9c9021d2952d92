-- The two modules of a sample: the first exports functions that compute with drawn numbers, the
-- second imports all of them and calls one in each of its own functions.
use Rattle.std.specs.Prelude.{ℕ, zero, suc, ◌+◌, ◌*◌, ◌%◌, List, [], ◌∷◌, ◌++◌, map, pos, decimal, None}
use Rattle.base_lists.specs.Places.{numbers}
use Rattle.wasm_num.specs.declared.BinOp.{BinOp}
use Rattle.wasm_num.specs.declared.BinOp.TheVariants.{I32Add, I32Xor, I32Mul}
use Rattle.wasm_tree_spec.specs.Prelude.{I32, FuncType, Instr, LocalGet, I32Const, Bin, Call, Import, Export, Func, Module}
use Rattle.wasm_tree.specs.declared.module.ImportDesc.TheVariants as imported
use Rattle.wasm_tree.specs.declared.module.ExportDesc.TheVariants as exported
use Rattle.wasm_gen.specs.Draws.{draw}

-- the name of the module from which the second imports
abbrev pub a : List ℕ
a = 97 ∷ []

-- the letters of the functions of the first and of the second module
abbrev pub f : List ℕ
f = 102 ∷ []

abbrev pub g : List ℕ
g = 103 ∷ []

-- ---- what both have ----

-- the one type, from [i32] to [i32]
abbrev pub unary : FuncType
unary = record { params = I32 ∷ []; results = I32 ∷ [] }

-- the function of the one type with this body and no other locals
abbrev pub func_of : List Instr → Func
func_of body = record { ty = 0; locals = []; body = body }

-- a letter and a number in decimal
abbrev pub numbered : (letter : List ℕ) (number : ℕ) → List ℕ
numbered letter number = letter ++ decimal number

-- exports of `count` functions from `index` on, the first under the letter and 0, the next under
-- the letter and 1, and so on
abbrev pub exports_of : (letter : List ℕ) (index count : ℕ) → List Export
exports_of letter index count = map (λ i. record { name = numbered letter i; desc = exported.Func (index + i) }) (numbers 0 count)

-- the module with the one type, and with these imports, functions and exports
abbrev pub module_of : List Import → List Func → List Export → Module
module_of imports funcs exports = record {
  types = unary ∷ [];
  imports = imports;
  funcs = funcs;
  tables = [];
  mems = [];
  globals = [];
  exports = exports;
  start = None;
  elems = [];
  datas = [];
}

-- ---- the first ----

abbrev pub operation : ℕ → BinOp
operation zero = I32Add
operation (suc zero) = I32Xor
operation (suc (suc n)) = I32Mul

-- a function that combines its parameter and a number by an operation; `op` modulo 3 says which
abbrev pub joined : (number op : ℕ) → Func
joined number op = func_of (LocalGet 0 ∷ (I32Const (pos number) ∷ (Bin (operation (op % 3)) ∷ [])))

-- function `i` of the first module: the number is drawn first, and then the operation
abbrev pub first_func : (seed i : ℕ) → Func
first_func seed i = joined (draw seed (i * 2 + 1)) (draw seed (i * 2 + 2))

-- the first module; it exports its functions as f0, f1 and so on
abbrev pub first_module : (seed count : ℕ) → Module
first_module seed count = module_of [] (map (first_func seed) (numbers 0 count)) (exports_of f 0 count)

-- ---- the second ----

-- imports of all functions of the first module, in order, from module `a`
abbrev pub second_imports : (count : ℕ) → List Import
second_imports count = map (λ i. record { «module» = a; field = numbered f i; desc = imported.Func 0 }) (numbers 0 count)

-- a function that passes its parameter to another
abbrev pub passed : ℕ → Func
passed callee = func_of (LocalGet 0 ∷ (Call callee ∷ []))

-- function `i` of the second module: which imported function it calls is drawn
abbrev pub second_func : (state count i : ℕ) → Func
second_func state count i = passed (draw state (i + 1) % count)

-- the second module with the draws that follow `state`; it exports its functions as g0, g1 and so
-- on
abbrev pub second_from : (state count : ℕ) → Module
second_from state count = module_of (second_imports count) (map (second_func state count) (numbers 0 count)) (exports_of g count count)

-- the second module of a sample: its draws come after those of the first
abbrev pub second_module : (seed count : ℕ) → Module
second_module seed count = second_from (draw seed (count * 2)) count
