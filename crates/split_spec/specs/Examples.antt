-- Words and small modules of the computed examples of a split.
use Rattle.std.proofs.Common.{ℕ, ◌+◌, List, [], ◌∷◌, ◌++◌, Option, Some, None, pos}
use Rattle.wasm_tree.specs.declared.types.RefType.TheVariants.{Func as func_ref}
use Rattle.wasm_tree.specs.declared.types.ValType.TheVariants as valt
use Rattle.wasm_tree_spec.specs.Prelude.{FuncType, Limits, TableType, Instr, ConstExpr, ElemSeg, Export, ExportDesc, Func, Import, ImportDesc, Module}
use Rattle.wasm_tree.specs.declared.instr.Instr.TheVariants as i
use Rattle.wasm_tree.specs.declared.module.ConstExpr.TheVariants as const
use Rattle.wasm_tree.specs.declared.module.ElemMode.TheVariants as elem
use Rattle.wasm_tree.specs.declared.module.ExportDesc.TheVariants as ex
use Rattle.wasm_tree.specs.declared.module.ImportDesc.TheVariants as im
use Rattle.split_spec.specs.declared.names.SplitNames.{SplitNames}

-- "primary".
abbrev pub primary_word : List ℕ
primary_word = 112 ∷ 114 ∷ 105 ∷ 109 ∷ 97 ∷ 114 ∷ 121 ∷ []

-- "placeholder".
abbrev pub placeholder_word : List ℕ
placeholder_word = 112 ∷ 108 ∷ 97 ∷ 99 ∷ 101 ∷ 104 ∷ 111 ∷ 108 ∷ 100 ∷ 101 ∷ 114 ∷ []

-- The names that the splits of the examples add; the prefix is "%".
abbrev pub names : SplitNames
names = record { import_namespace = primary_word; placeholder_namespace = placeholder_word; export_prefix = 37 ∷ [] }

-- "%slots", the name of the export of the slot table.
abbrev pub slots_word : List ℕ
slots_word = 37 ∷ 115 ∷ 108 ∷ 111 ∷ 116 ∷ 115 ∷ []

abbrev pub empty : Module
empty = record { types = []; imports = []; funcs = []; tables = []; mems = []; globals = []; exports = []; start = None; elems = []; datas = [] }

abbrev pub func : ℕ → List Instr → Func
func ty body = record { ty = ty; locals = []; body = body }

abbrev pub import : List ℕ → List ℕ → ImportDesc → Import
import namespace field d = record { «module» = namespace; field = field; desc = d }

abbrev pub export : List ℕ → ExportDesc → Export
export name d = record { name = name; desc = d }

abbrev pub limits : ℕ → Option ℕ → Limits
limits min max = record { min = min; max = max }

abbrev pub table : ℕ → TableType
table count = record { ty = func_ref; limits = limits count (Some count) }

abbrev pub segment : (table from : ℕ) → List ConstExpr → ElemSeg
segment table from items = record { mode = elem.Active table (const.I32 (pos from)); ty = func_ref; items = items }

abbrev pub nothing : FuncType
nothing = record { params = []; results = [] }

abbrev pub gives_number : FuncType
gives_number = record { params = []; results = valt.I32 ∷ [] }

abbrev pub number_to_number : FuncType
number_to_number = record { params = valt.I32 ∷ []; results = valt.I32 ∷ [] }

abbrev pub takes_number : FuncType
takes_number = record { params = valt.I32 ∷ []; results = [] }

abbrev pub takes_two : FuncType
takes_two = record { params = valt.I32 ∷ valt.I32 ∷ []; results = valt.I32 ∷ [] }

-- The import of a slot table that has so many slots, in the secondary module.
abbrev pub slots_import : ℕ → Import
slots_import count = import primary_word slots_word (im.Table (table count))

-- The first function, which is exported as "f", calls the second.
abbrev pub calling : Module
calling = record empty { types = gives_number ∷ []; funcs = func 0 (i.Call 1 ∷ []) ∷ func 0 (i.I32Const (pos 7) ∷ []) ∷ []; exports = export (102 ∷ []) (ex.Func 0) ∷ [] }

-- The primary module of `calling` if the second function moves.
abbrev pub calling_primary : Module
calling_primary = record calling {
  imports = import placeholder_word (48 ∷ []) (im.Func 0) ∷ [];
  funcs = func 0 (i.I32Const (pos 0) ∷ i.CallIndirect 0 0 ∷ []) ∷ [];
  tables = table 1 ∷ [];
  exports = export (102 ∷ []) (ex.Func 1) ∷ export slots_word (ex.Table 0) ∷ [];
  elems = segment 0 0 (const.Func 0 ∷ []) ∷ [];
}

-- The secondary module of `calling` if the second function moves.
abbrev pub calling_secondary : Module
calling_secondary = record empty { types = gives_number ∷ []; imports = slots_import 1 ∷ []; funcs = func 0 (i.I32Const (pos 7) ∷ []) ∷ []; elems = segment 0 0 (const.Func 0 ∷ []) ∷ [] }

-- The name under which the primary module exports something for the secondary one: "%", the letter
-- of its kind, and its index in the input module, a digit. Letter and digit are given as bytes.
abbrev pub shared_word : (kind index : ℕ) → List ℕ
shared_word kind index = 37 ∷ kind ∷ index ∷ []

-- The module name of the placeholders of one of several secondary modules: "placeholder." and a
-- digit, which is given as a byte.
abbrev pub numbered_placeholder : ℕ → List ℕ
numbered_placeholder digit = placeholder_word ++ 46 ∷ digit ∷ []
