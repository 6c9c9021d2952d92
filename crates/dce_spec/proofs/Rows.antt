-- Small modules that are swept, computed.
use Rattle.base_lists.proofs.Common.{◌≡◌, refl, ℕ, List, [], ◌∷◌, Option, Some, None, true, false, rules, pos}
use Rattle.wasm_num.specs.declared.BinOp.TheVariants.{I32Shl}
use Rattle.wasm_tree.specs.declared.types.RefType.TheVariants.{Func as func_ref, Extern as extern_ref}
use Rattle.wasm_tree.specs.declared.types.ValType.TheVariants as valt
use Rattle.wasm_tree_spec.specs.Prelude.{FuncType, GlobalType, Limits, Instr, the_lemmas, I32Store, ConstExpr, ElemSeg, Export, ExportDesc, Func, GlobalDef, Import, ImportDesc, Module}
use Rattle.wasm_tree.specs.declared.instr.Instr.TheVariants as i
use Rattle.wasm_tree.specs.declared.module.ConstExpr.TheVariants as const
use Rattle.wasm_tree.specs.declared.module.DataMode.TheVariants as «data»
use Rattle.wasm_tree.specs.declared.module.ElemMode.TheVariants as elem
use Rattle.wasm_tree.specs.declared.module.ExportDesc.TheVariants as ex
use Rattle.wasm_tree.specs.declared.module.ImportDesc.TheVariants as im
use Rattle.index_remap.specs.Prelude.{declaring}
use Rattle.dce_spec.specs.Marks.{Marks}
use Rattle.dce_spec.specs.Swept.{renumbered_kept, swept}

abbrev empty : Module
empty = record { types = []; imports = []; funcs = []; tables = []; mems = []; globals = []; exports = []; start = None; elems = []; datas = [] }

abbrev func : ℕ → List Instr → Func
func ty body = record { ty = ty; locals = []; body = body }

abbrev import : ℕ → ImportDesc → Import
import field d = record { «module» = 101 ∷ 110 ∷ 118 ∷ []; field = field ∷ []; desc = d }

abbrev export : ℕ → ExportDesc → Export
export name d = record { name = name ∷ []; desc = d }

abbrev limits : ℕ → Option ℕ → Limits
limits min max = record { min = min; max = max }

abbrev nothing : FuncType
nothing = record { params = []; results = [] }

abbrev number_to_number : FuncType
number_to_number = record { params = valt.I32 ∷ []; results = valt.I32 ∷ [] }

abbrev takes_number : FuncType
takes_number = record { params = valt.I32 ∷ []; results = [] }

abbrev fixed : GlobalType
fixed = record { ty = valt.I32; mutable = false }

-- ---- a module as a linker writes it ----

-- The functions are `log`, which is imported, `ctors`, `init`, `twice` and `run`. The global is the
-- stack pointer. The function `run` calls `log`, and it calls `twice` through the table.
abbrev run_body : List Instr
run_body = i.LocalGet 0 ∷ i.Call 0 ∷ i.LocalGet 0 ∷ i.I32Const (pos 1) ∷ i.CallIndirect 1 0 ∷ []

abbrev twice_body : List Instr
twice_body = i.LocalGet 0 ∷ i.I32Const (pos 1) ∷ i.Bin I32Shl ∷ []

abbrev init_body : List Instr
init_body = i.I32Const (pos 0) ∷ i.I32Const (pos 42) ∷ i.Store I32Store (record { align = 2; offset = 1028; memory = 0 }) ∷ []

abbrev linked : Module
linked = record {
  types = nothing ∷ number_to_number ∷ takes_number ∷ [];
  imports = import 108 (im.Func 2) ∷ [];
  funcs = func 0 (i.Call 2 ∷ []) ∷ func 0 init_body ∷ func 1 twice_body ∷ func 1 run_body ∷ [];
  tables = record { ty = func_ref; limits = limits 5 (Some 5) } ∷ [];
  mems = limits 2 None ∷ [];
  globals = record { ty = record { ty = valt.I32; mutable = true }; init = const.I32 (pos 66576) } ∷ [];
  exports = export 109 (ex.Memory 0) ∷ export 99 (ex.Func 1) ∷ export 114 (ex.Func 4) ∷ [];
  start = None;
  elems = record { mode = elem.Active 0 (const.I32 (pos 1)); ty = func_ref; items = const.Func 3 ∷ [] } ∷ [];
  datas = record { mode = «data».Active 0 (const.I32 (pos 1024)); bytes = 104 ∷ 105 ∷ [] } ∷ [];
}

-- The memory and `run` are reached. The function `twice` is kept because an active segment names
-- it.
abbrev run_reached : Marks
run_reached = record { exports = true ∷ false ∷ true ∷ []; imports = true ∷ []; funcs = true ∷ false ∷ false ∷ true ∷ true ∷ []; globals = false ∷ [] }

abbrev linked_left : List Func → Module
linked_left funcs = record linked {
  funcs = funcs;
  globals = [];
  exports = export 109 (ex.Memory 0) ∷ export 114 (ex.Func 2) ∷ [];
  elems = record { mode = elem.Active 0 (const.I32 (pos 1)); ty = func_ref; items = const.Func 1 ∷ [] } ∷ [];
}

two_functions_are_left : renumbered_kept run_reached linked ≡ linked_left (func 1 twice_body ∷ func 1 run_body ∷ [])
two_functions_are_left = search (rules, the_lemmas)

nothing_is_declared : swept run_reached linked ≡ renumbered_kept run_reached linked
unfolding swept
nothing_is_declared = search (rules, the_lemmas)

-- ---- a function that its export alone declared ----

-- The first defined function calls the import and names the third, which is in no element segment,
-- by `ref.func`.
abbrev called_back : Module
called_back = record empty {
  types = nothing ∷ [];
  imports = import 99 (im.Func 0) ∷ [];
  funcs = func 0 (i.Call 0 ∷ i.RefFunc 3 ∷ i.Drop ∷ []) ∷ func 0 [] ∷ func 0 [] ∷ [];
  exports = export 97 (ex.Func 1) ∷ export 98 (ex.Func 2) ∷ export 99 (ex.Func 3) ∷ [];
}

abbrev third_export_unreached : Marks
third_export_unreached = record { exports = true ∷ true ∷ false ∷ []; imports = true ∷ []; funcs = true ∷ true ∷ true ∷ true ∷ []; globals = [] }

it_is_declared_last : swept third_export_unreached called_back ≡ record called_back { exports = export 97 (ex.Func 1) ∷ export 98 (ex.Func 2) ∷ []; elems = declaring (3 ∷ []) ∷ [] }
unfolding swept
it_is_declared_last = search (rules, the_lemmas)

-- ---- declarative segments ----

abbrev segment : ElemSeg → Module
segment e = record empty { types = nothing ∷ []; funcs = func 0 [] ∷ func 0 [] ∷ []; exports = export 97 (ex.Func 1) ∷ []; elems = e ∷ [] }

abbrev second_func_reached : Marks
second_func_reached = record { exports = true ∷ []; imports = []; funcs = false ∷ true ∷ []; globals = [] }

-- A declarative segment keeps only references to functions that are kept, by their new indices.
one_item_stays : (swept second_func_reached (segment (record { mode = elem.Declarative; ty = func_ref; items = const.Func 0 ∷ const.Null func_ref ∷ const.Func 1 ∷ [] }))).elems ≡ declaring (0 ∷ []) ∷ []
unfolding swept
one_item_stays = refl

-- A segment of which no item is left keeps its place and its type.
none_stays : (swept second_func_reached (segment (record { mode = elem.Declarative; ty = func_ref; items = const.Func 0 ∷ [] }))).elems ≡ declaring [] ∷ []
unfolding swept
none_stays = refl

no_null_stays : (swept second_func_reached (segment (record { mode = elem.Declarative; ty = extern_ref; items = const.Null extern_ref ∷ [] }))).elems ≡ record { mode = elem.Declarative; ty = extern_ref; items = [] } ∷ []
unfolding swept
no_null_stays = refl

-- A passive segment keeps all items.
all_items_stay : (swept second_func_reached (segment (record { mode = elem.Passive; ty = func_ref; items = const.Null func_ref ∷ const.Func 1 ∷ [] }))).elems ≡ record { mode = elem.Passive; ty = func_ref; items = const.Null func_ref ∷ const.Func 0 ∷ [] } ∷ []
unfolding swept
all_items_stay = refl

-- ---- a global whose initialiser reads an import ----

abbrev global : ConstExpr → GlobalDef
global init = record { ty = fixed; init = init }

-- The initialisers of two globals each read an imported global.
abbrev reading : Module
reading = record empty { imports = import 97 (im.Global fixed) ∷ import 98 (im.Global fixed) ∷ []; globals = global (const.Global 0) ∷ global (const.Global 1) ∷ []; exports = export 120 (ex.Global 3) ∷ [] }

abbrev second_read : Marks
second_read = record { exports = true ∷ []; imports = false ∷ true ∷ []; funcs = []; globals = false ∷ true ∷ false ∷ true ∷ [] }

its_import_is_kept : swept second_read reading ≡ record empty { imports = import 98 (im.Global fixed) ∷ []; globals = global (const.Global 0) ∷ []; exports = export 120 (ex.Global 1) ∷ [] }
unfolding swept
its_import_is_kept = refl

-- ---- a start, an import that is removed, and offsets that read a global ----

-- The second imported function, the second imported global and the second defined function are
-- reached, the first ones are not.
abbrev started : Module
started = record empty {
  types = nothing ∷ [];
  imports = import 97 (im.Func 0) ∷ import 98 (im.Func 0) ∷ import 99 (im.Global fixed) ∷ import 100 (im.Global fixed) ∷ [];
  funcs = func 0 (i.Call 0 ∷ []) ∷ func 0 (i.Call 1 ∷ i.Call 3 ∷ []) ∷ [];
  tables = record { ty = func_ref; limits = limits 5 None } ∷ [];
  mems = limits 1 None ∷ [];
  start = Some 3;
  elems = record { mode = elem.Active 0 (const.Global 1); ty = func_ref; items = const.Func 3 ∷ const.Null func_ref ∷ [] } ∷ [];
  datas = record { mode = «data».Active 0 (const.Global 1); bytes = 104 ∷ [] } ∷ [];
}

abbrev start_reached : Marks
start_reached = record { exports = []; imports = false ∷ true ∷ false ∷ true ∷ []; funcs = false ∷ true ∷ false ∷ true ∷ []; globals = false ∷ true ∷ [] }

abbrev started_left : Module
started_left = record started {
  imports = import 98 (im.Func 0) ∷ import 100 (im.Global fixed) ∷ [];
  funcs = func 0 (i.Call 0 ∷ i.Call 1 ∷ []) ∷ [];
  start = Some 1;
  elems = record { mode = elem.Active 0 (const.Global 0); ty = func_ref; items = const.Func 1 ∷ const.Null func_ref ∷ [] } ∷ [];
  datas = record { mode = «data».Active 0 (const.Global 0); bytes = 104 ∷ [] } ∷ [];
}

what_stays_has_new_indices : swept start_reached started ≡ started_left
unfolding swept
what_stays_has_new_indices = search (rules, the_lemmas)
