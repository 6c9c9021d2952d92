-- Splits of small modules, by computation.
use Rattle.base_lists.proofs.Common.{◌≡◌, refl, ℕ, ◌+◌, List, [], ◌∷◌, ◌++◌, Option, Some, None, true, false, rules, pos}
use Rattle.std.specs.Fmt.{digits}
use Rattle.wasm_num.specs.declared.BinOp.TheVariants.{I32Add, I32Shl}
use Rattle.wasm_tree.specs.declared.types.RefType.TheVariants.{Func as func_ref}
use Rattle.wasm_tree.specs.declared.types.ValType.TheVariants as valt
use Rattle.wasm_tree.specs.declared.types.BlockType.TheVariants as block
use Rattle.wasm_tree_spec.specs.Prelude.{FuncType, GlobalType, Limits, TableType, Instr, the_lemmas, I32Store, ConstExpr, ElemSeg, Export, ExportDesc, Func, GlobalDef, Import, ImportDesc, Module}
use Rattle.wasm_tree.specs.declared.instr.Instr.TheVariants as i
use Rattle.wasm_tree.specs.declared.module.ConstExpr.TheVariants as const
use Rattle.wasm_tree.specs.declared.module.DataMode.TheVariants as «data»
use Rattle.wasm_tree.specs.declared.module.ExportDesc.TheVariants as ex
use Rattle.wasm_tree.specs.declared.module.ImportDesc.TheVariants as im
use Rattle.index_remap.specs.Prelude.{declaring}
use Rattle.split_spec.specs.declared.names.SplitNames.{SplitNames}
use Rattle.split_spec.specs.declared.faults.SplitFault.TheVariants.{NamespaceTaken, PrefixTaken}
use Rattle.split_spec.specs.TrampolineNeeds.{needed}
use Rattle.split_spec.specs.Prelude.{primary, HasSlots, secondary, namespace_taken, prefix_taken, moved_params, split_fault}
use Rattle.split_spec.specs.Primary.{primary_with}
use Rattle.split_spec.specs.Secondary.{secondary_with}
use Rattle.split_spec.specs.Examples.{primary_word, placeholder_word, names, slots_word, empty, func, import, export, limits, table, segment, nothing, gives_number, number_to_number, takes_number, takes_two, slots_import, calling, calling_primary, calling_secondary, shared_word}
use Rattle.split_spec.specs.Examples.{numbered_placeholder}

-- ---- a function that is exported ----

abbrev pub adding_body : List Instr
adding_body = i.LocalGet 0 ∷ i.LocalGet 1 ∷ i.Bin I32Add ∷ []

abbrev pub adding_as : List ℕ → Module
adding_as name = record empty { types = takes_two ∷ []; funcs = func 0 adding_body ∷ []; exports = export name (ex.Func 0) ∷ [] }

-- The word "add" is the name of an export.
abbrev pub adding : Module
adding = adding_as (97 ∷ 100 ∷ 100 ∷ [])

abbrev pub adding_primary : Module
adding_primary = record adding {
  imports = import placeholder_word (48 ∷ []) (im.Func 0) ∷ [];
  funcs = func 0 (i.LocalGet 0 ∷ i.LocalGet 1 ∷ i.I32Const (pos 0) ∷ i.CallIndirect 0 0 ∷ []) ∷ [];
  tables = table 1 ∷ [];
  exports = export (97 ∷ 100 ∷ 100 ∷ []) (ex.Func 1) ∷ export slots_word (ex.Table 0) ∷ [];
  elems = segment 0 0 (const.Func 0 ∷ []) ∷ [];
}

abbrev pub adding_secondary : Module
adding_secondary = record empty { types = takes_two ∷ []; imports = slots_import 1 ∷ []; funcs = func 0 adding_body ∷ []; elems = segment 0 0 (const.Func 0 ∷ []) ∷ [] }

what_is_exported_needs_a_trampoline : needed adding (0 ∷ []) ≡ 0 ∷ []
what_is_exported_needs_a_trampoline = search (rules, the_lemmas)

what_is_exported_is_called_through_a_trampoline : primary names adding (0 ∷ []) ≡ adding_primary
unfolding primary_with digits
what_is_exported_is_called_through_a_trampoline = search (rules, the_lemmas)

what_adds_is_put_into_its_slot : secondary names adding (0 ∷ []) ≡ adding_secondary
unfolding secondary_with digits
what_adds_is_put_into_its_slot = search (rules, the_lemmas)

-- ---- a function that is only called ----

what_is_only_called_needs_no_trampoline : needed calling (1 ∷ []) ≡ []
what_is_only_called_needs_no_trampoline = search (rules, the_lemmas)

what_is_only_called_is_called_through_its_slot : primary names calling (1 ∷ []) ≡ calling_primary
unfolding primary_with digits
what_is_only_called_is_called_through_its_slot = search (rules, the_lemmas)

what_is_called_is_put_into_its_slot : secondary names calling (1 ∷ []) ≡ calling_secondary
unfolding secondary_with digits
what_is_called_is_put_into_its_slot = search (rules, the_lemmas)

-- ---- nothing moves ----

-- The function is exported as "i". It copies from a segment, and so it stays.
abbrev pub copying : Module
copying = record empty {
  types = nothing ∷ [];
  funcs = func 0 (i.I32Const (pos 0) ∷ i.I32Const (pos 0) ∷ i.I32Const (pos 0) ∷ i.MemoryInit 0 0 ∷ []) ∷ [];
  mems = limits 1 None ∷ [];
  exports = export (105 ∷ []) (ex.Func 0) ∷ [];
  datas = record { mode = «data».Passive; bytes = 120 ∷ [] } ∷ [];
}

abbrev pub copying_primary : Module
copying_primary = record copying { tables = table 0 ∷ []; exports = export (105 ∷ []) (ex.Func 0) ∷ export slots_word (ex.Table 0) ∷ []; elems = segment 0 0 [] ∷ [] }

abbrev pub copying_secondary : Module
copying_secondary = record empty { types = nothing ∷ []; imports = slots_import 0 ∷ []; elems = segment 0 0 [] ∷ [] }

all_stays : primary names copying [] ≡ copying_primary
unfolding primary_with digits
all_stays = search (rules, the_lemmas)

no_slot_is_filled : secondary names copying [] ≡ copying_secondary
unfolding secondary_with digits
no_slot_is_filled = search (rules, the_lemmas)

-- ---- a module as a linker writes it ----

-- The words are "log", "env", "memory", "__wasm_call_ctors" and "run".
abbrev pub log_import : Import
log_import = import (101 ∷ 110 ∷ 118 ∷ []) (108 ∷ 111 ∷ 103 ∷ []) (im.Func 2)

abbrev pub linked_exports : (ctors run : ℕ) → List Export
linked_exports ctors run =
    export (109 ∷ 101 ∷ 109 ∷ 111 ∷ 114 ∷ 121 ∷ []) (ex.Memory 0)
    ∷ export (95 ∷ 95 ∷ 119 ∷ 97 ∷ 115 ∷ 109 ∷ 95 ∷ 99 ∷ 97 ∷ 108 ∷ 108 ∷ 95 ∷ 99 ∷ 116 ∷ 111 ∷ 114 ∷ 115 ∷ []) (ex.Func ctors)
    ∷ export (114 ∷ 117 ∷ 110 ∷ []) (ex.Func run)
    ∷ []

abbrev pub init_body : List Instr
init_body = i.I32Const (pos 0) ∷ i.I32Const (pos 42) ∷ i.Store I32Store (record { align = 2; offset = 1028; memory = 0 }) ∷ []

abbrev pub twice_body : List Instr
twice_body = i.LocalGet 0 ∷ i.I32Const (pos 1) ∷ i.Bin I32Shl ∷ []

abbrev pub run_body : List Instr
run_body = i.LocalGet 0 ∷ i.Call 0 ∷ i.LocalGet 0 ∷ i.I32Const (pos 1) ∷ i.CallIndirect 1 0 ∷ []

-- The functions are log, which is imported, ctors, init, twice and run. Run calls log, and twice
-- through the table.
abbrev pub linked : Module
linked = record {
  types = nothing ∷ number_to_number ∷ takes_number ∷ [];
  imports = log_import ∷ [];
  funcs = func 0 (i.Call 2 ∷ []) ∷ func 0 init_body ∷ func 1 twice_body ∷ func 1 run_body ∷ [];
  tables = table 5 ∷ [];
  mems = limits 2 None ∷ [];
  globals = record { ty = record { ty = valt.I32; mutable = true }; init = const.I32 (pos 66576) } ∷ [];
  exports = linked_exports 1 4;
  start = None;
  elems = segment 0 1 (const.Func 3 ∷ []) ∷ [];
  datas = record { mode = «data».Active 0 (const.I32 (pos 1024)); bytes = 104 ∷ 105 ∷ [] } ∷ [];
}

abbrev pub linked_primary : Module
linked_primary = record linked {
  imports = log_import ∷ import placeholder_word (48 ∷ []) (im.Func 1) ∷ [];
  funcs = func 0 (i.Call 3 ∷ []) ∷ func 0 init_body ∷ func 1 (i.LocalGet 0 ∷ i.I32Const (pos 0) ∷ i.CallIndirect 1 1 ∷ []) ∷ func 1 run_body ∷ [];
  tables = table 5 ∷ table 1 ∷ [];
  exports = linked_exports 2 5 ++ export slots_word (ex.Table 1) ∷ [];
  elems = segment 0 1 (const.Func 4 ∷ []) ∷ segment 1 0 (const.Func 1 ∷ []) ∷ [];
}

abbrev pub linked_secondary : Module
linked_secondary = record empty { types = linked.types; imports = slots_import 1 ∷ []; funcs = func 1 twice_body ∷ []; elems = segment 0 0 (const.Func 0 ∷ []) ∷ [] }

-- The function twice moves, and the table refers to its trampoline.
twice_is_called_through_a_trampoline : primary names linked (3 ∷ []) ≡ linked_primary
unfolding primary_with digits
twice_is_called_through_a_trampoline = search (rules, the_lemmas)

twice_moves : secondary names linked (3 ∷ []) ≡ linked_secondary
unfolding secondary_with digits
twice_moves = search (rules, the_lemmas)

-- ---- all that can be shared ----

abbrev pub number : GlobalDef
number = record { ty = record { ty = valt.I32; mutable = false }; init = const.I32 (pos 0) }

-- Function 0 is imported. Function 1, which is exported, calls function 2 in a block, and functions
-- 2 and 3 are to move: they call each other, and function 2 names
-- function 3 by `ref.func`, calls functions 0 and 1, and names a global and a memory.
abbrev pub sharing : Module
sharing = record empty {
  types = nothing ∷ [];
  imports = import (101 ∷ []) (102 ∷ []) (im.Func 0) ∷ [];
  funcs =
      func 0 (i.Block block.Empty (i.Call 2 ∷ []) ∷ [])
      ∷ func 0 (i.Call 1 ∷ i.Call 3 ∷ i.RefFunc 3 ∷ i.Drop ∷ i.GlobalGet 1 ∷ i.Drop ∷ i.MemorySize 0 ∷ i.Drop ∷ i.Call 0 ∷ [])
      ∷ func 0 (i.Call 2 ∷ [])
      ∷ [];
  mems = limits 1 None ∷ [];
  globals = number ∷ number ∷ [];
  exports = export (97 ∷ []) (ex.Func 1) ∷ [];
  elems = declaring (3 ∷ []) ∷ [];
}

one_trampoline_is_needed : needed sharing (2 ∷ 3 ∷ []) ≡ 3 ∷ []
one_trampoline_is_needed = search (rules, the_lemmas)

the_primary_module_exports_what_is_shared : primary names sharing (2 ∷ 3 ∷ []) ≡ record sharing {
  imports = import (101 ∷ []) (102 ∷ []) (im.Func 0) ∷ import placeholder_word (48 ∷ []) (im.Func 0) ∷ import placeholder_word (49 ∷ []) (im.Func 0) ∷ [];
  funcs = func 0 (i.Block block.Empty (i.I32Const (pos 0) ∷ i.CallIndirect 0 0 ∷ []) ∷ []) ∷ func 0 (i.I32Const (pos 1) ∷ i.CallIndirect 0 0 ∷ []) ∷ [];
  tables = table 2 ∷ [];
  exports =
      export (97 ∷ []) (ex.Func 3)
      ∷ export (shared_word 102 48) (ex.Func 0) ∷ export (shared_word 102 49) (ex.Func 3) ∷ export (shared_word 102 51) (ex.Func 4)
      ∷ export (shared_word 109 48) (ex.Memory 0) ∷ export (shared_word 103 49) (ex.Global 1) ∷ export slots_word (ex.Table 0)
      ∷ [];
  elems = declaring (4 ∷ []) ∷ segment 0 0 (const.Func 1 ∷ const.Func 2 ∷ []) ∷ [];
}
unfolding primary_with digits
the_primary_module_exports_what_is_shared = search (rules, the_lemmas)

the_secondary_module_imports_it : secondary names sharing (2 ∷ 3 ∷ []) ≡ record empty {
  types = nothing ∷ [];
  imports =
      import primary_word (shared_word 102 48) (im.Func 0) ∷ import primary_word (shared_word 102 49) (im.Func 0) ∷ import primary_word (shared_word 102 51) (im.Func 0)
      ∷ slots_import 2
      ∷ import primary_word (shared_word 109 48) (im.Memory (limits 1 None)) ∷ import primary_word (shared_word 103 49) (im.Global (number.ty))
      ∷ [];
  funcs = func 0 (i.Call 1 ∷ i.Call 4 ∷ i.RefFunc 2 ∷ i.Drop ∷ i.GlobalGet 0 ∷ i.Drop ∷ i.MemorySize 0 ∷ i.Drop ∷ i.Call 0 ∷ []) ∷ func 0 (i.Call 3 ∷ []) ∷ [];
  elems = segment 0 0 (const.Func 3 ∷ const.Func 4 ∷ []) ∷ declaring (2 ∷ []) ∷ [];
}
unfolding secondary_with digits
the_secondary_module_imports_it = search (rules, the_lemmas)

-- ---- several secondary modules ----

-- Both functions move, each to a secondary module of its own.
both_are_called_through_slots : primary_with (λ slot. numbered_placeholder (48 + slot)) (37 ∷ []) calling (0 ∷ 1 ∷ []) ≡ record calling {
  imports = import (numbered_placeholder 48) (48 ∷ []) (im.Func 0) ∷ import (numbered_placeholder 49) (49 ∷ []) (im.Func 0) ∷ [];
  funcs = func 0 (i.I32Const (pos 0) ∷ i.CallIndirect 0 0 ∷ []) ∷ [];
  tables = table 2 ∷ [];
  exports = export (102 ∷ []) (ex.Func 2) ∷ export slots_word (ex.Table 0) ∷ [];
  elems = segment 0 0 (const.Func 0 ∷ const.Func 1 ∷ []) ∷ [];
}
unfolding primary_with digits
both_are_called_through_slots = search (rules, the_lemmas)

the_first_calls_the_other_through_its_slot : secondary_with names calling (0 ∷ 1 ∷ []) (0 ∷ []) 0 ≡ record empty {
  types = gives_number ∷ [];
  imports = slots_import 2 ∷ [];
  funcs = func 0 (i.I32Const (pos 1) ∷ i.CallIndirect 0 0 ∷ []) ∷ [];
  elems = segment 0 0 (const.Func 0 ∷ []) ∷ [];
}
unfolding secondary_with digits
the_first_calls_the_other_through_its_slot = search (rules, the_lemmas)

the_second_fills_the_slot_behind : secondary_with names calling (0 ∷ 1 ∷ []) (1 ∷ []) 1 ≡ record calling_secondary { imports = slots_import 2 ∷ []; elems = segment 0 1 (const.Func 0 ∷ []) ∷ [] }
unfolding secondary_with digits
the_second_fills_the_slot_behind = search (rules, the_lemmas)

-- The slots of a secondary module with two functions, and those of a module without functions that
-- follows a module with one slot.
the_pair_has_all_slots : HasSlots (2 ∷ 3 ∷ []) (2 ∷ 3 ∷ []) 0
the_pair_has_all_slots = record { earlier = []; later = []; all = refl; count = refl }

the_second_has_one : HasSlots (0 ∷ 1 ∷ []) (1 ∷ []) 1
the_second_has_one = record { earlier = 0 ∷ []; later = []; all = refl; count = refl }

one_may_have_none : HasSlots (0 ∷ 1 ∷ []) [] 1
one_may_have_none = record { earlier = 0 ∷ []; later = 1 ∷ []; all = refl; count = refl }

-- ---- tables, a start, an initialiser, locals ----

abbrev pub referring : GlobalDef
referring = record { ty = record { ty = valt.Ref func_ref; mutable = false }; init = const.Func 1 }

-- One table is imported and one defined. Functions 0 and 1 are to move: the first, which has
-- locals, calls through the second table and is the start; a global refers
-- to the second.
abbrev pub filling : Module
filling = record empty {
  types = takes_number ∷ nothing ∷ [];
  imports = import (101 ∷ []) (116 ∷ []) (im.Table (table 3)) ∷ [];
  funcs = record { ty = 1; locals = record { count = 1; ty = valt.I32 } ∷ []; body = i.LocalGet 0 ∷ i.CallIndirect 1 1 ∷ [] } ∷ func 0 [] ∷ [];
  tables = table 4 ∷ [];
  globals = referring ∷ [];
  start = Some 0;
}

the_start_and_an_initialiser_need_trampolines : needed filling (0 ∷ 1 ∷ []) ≡ 0 ∷ 1 ∷ []
the_start_and_an_initialiser_need_trampolines = search (rules, the_lemmas)

the_slot_table_is_the_last : primary names filling (0 ∷ 1 ∷ []) ≡ record filling {
  imports = import (101 ∷ []) (116 ∷ []) (im.Table (table 3)) ∷ import placeholder_word (48 ∷ []) (im.Func 1) ∷ import placeholder_word (49 ∷ []) (im.Func 0) ∷ [];
  funcs = func 1 (i.I32Const (pos 0) ∷ i.CallIndirect 1 2 ∷ []) ∷ func 0 (i.LocalGet 0 ∷ i.I32Const (pos 1) ∷ i.CallIndirect 0 2 ∷ []) ∷ [];
  tables = table 4 ∷ table 2 ∷ [];
  globals = record referring { init = const.Func 3 } ∷ [];
  exports = export (shared_word 116 49) (ex.Table 1) ∷ export slots_word (ex.Table 2) ∷ [];
  start = Some 2;
  elems = segment 2 0 (const.Func 0 ∷ const.Func 1 ∷ []) ∷ [];
}
unfolding primary_with digits
the_slot_table_is_the_last = search (rules, the_lemmas)

it_comes_behind_the_tables_that_are_imported : secondary names filling (0 ∷ 1 ∷ []) ≡ record empty {
  types = filling.types;
  imports = import primary_word (shared_word 116 49) (im.Table (table 4)) ∷ slots_import 2 ∷ [];
  funcs = record { ty = 1; locals = record { count = 1; ty = valt.I32 } ∷ []; body = i.LocalGet 0 ∷ i.CallIndirect 1 0 ∷ [] } ∷ func 0 [] ∷ [];
  elems = segment 1 0 (const.Func 0 ∷ const.Func 1 ∷ []) ∷ [];
}
unfolding secondary_with digits
it_comes_behind_the_tables_that_are_imported = search (rules, the_lemmas)

-- ---- faults ----

-- The import is "g" of the namespace "placeholder".
abbrev pub holding_import : Import
holding_import = import placeholder_word (103 ∷ []) (im.Global (number.ty))

the_namespace_is_taken : namespace_taken placeholder_word (record adding { imports = holding_import ∷ [] }) ≡ Some 0
the_namespace_is_taken = refl

no_import_has_it : namespace_taken placeholder_word linked ≡ None
no_import_has_it = refl

-- The name for the export of the slot table is already the name of an export.
its_name_is_taken : prefix_taken (37 ∷ []) (adding_as slots_word) (0 ∷ []) ≡ Some slots_word
its_name_is_taken = search (rules, the_lemmas)

no_export_has_it : prefix_taken (37 ∷ []) adding (0 ∷ []) ≡ None
no_export_has_it = search (rules, the_lemmas)

two_parameters_move : moved_params adding (0 ∷ []) ≡ 2
two_parameters_move = refl

-- A taken namespace is reported before a taken prefix, even where no function moves.
the_namespace_comes_first : split_fault names (record (adding_as slots_word) { imports = holding_import ∷ [] }) (0 ∷ []) ≡ Some (NamespaceTaken 0)
the_namespace_comes_first = refl

the_namespace_counts_where_nothing_moves : split_fault names (record adding { imports = holding_import ∷ [] }) [] ≡ Some (NamespaceTaken 0)
the_namespace_counts_where_nothing_moves = refl

then_the_prefix_comes : split_fault names (adding_as slots_word) (0 ∷ []) ≡ Some (PrefixTaken slots_word)
then_the_prefix_comes = search (rules, the_lemmas)
