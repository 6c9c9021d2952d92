-- Small modules whose constructors are evaluated, and their snapshots, computed.
use Rattle.base_lists.proofs.Common.{◌≡◌, refl, rules, pos, List, negsuc, [], ◌∷◌, ◌++◌, Some, None, true, false}
use Rattle.wasm_num.specs.declared.BinOp.TheVariants.{I32Shl, I32Sub}
use Rattle.wasm_num.specs.Operations.{wrapped, signed, bin_from, bin_to, bin_value}
use Rattle.wasm_tree.specs.declared.types.RefType.TheVariants.{Func as func_ref, Extern as extern_ref}
use Rattle.wasm_tree_spec.specs.Prelude.{I32, I64, Ref, FuncType, GlobalType, the_lemmas, I32Store, Module, any_uses_data}
use Rattle.wasm_tree.specs.declared.types.BlockType.TheVariants as bt
use Rattle.wasm_tree.specs.declared.instr.Instr.{out-Instr}
use Rattle.wasm_tree.specs.declared.instr.Instr.TheBlock.{shown-the_row-Instr-0}
use Rattle.wasm_tree.specs.declared.instr.Instr.TheVariants as i
use Rattle.wasm_tree.specs.declared.module.ConstExpr.TheVariants as const
use Rattle.wasm_tree.specs.declared.module.ElemMode.TheVariants as elem
use Rattle.wasm_tree.specs.declared.module.ExportDesc.TheVariants as ex
use Rattle.wasm_tree.specs.declared.module.ImportDesc.TheVariants as im
use Rattle.wasm_meaning.specs.Prelude.{Text}
use Rattle.wasm_meaning.specs.Access.{store_from, stored, little_bytes}
use Rattle.index_remap.specs.Prelude.{declared, declaring}
use Rattle.eval_snapshot_spec.specs.Evaluated.{evaluated_tree, evaluated_count, first_missing}
use Rattle.eval_snapshot_spec.proofs.Modules.{a, b, c, empty, func, export, import, page, mutable_i32, fixed_i32, global, num, stores, at, passive}
use Rattle.eval_snapshot_spec.proofs.Made.{made}

-- ---- three constructors, of which the second calls an import ----

abbrev pub three : Module
three = record empty {
  imports = import (im.Func 0) ∷ [];
  funcs = func (stores 1024 42) ∷ func (stores 1025 1 ++ i.Call 0 ∷ []) ∷ func [] ∷ [];
  mems = page ∷ [];
  exports = export a 1 ∷ export b 2 ∷ export c 3 ∷ [];
}

one_is_evaluated : evaluated_count three (a ∷ b ∷ c ∷ []) ≡ 1
unfolding out-Instr denote.Hole.Carrier.out wrapped signed store_from stored little_bytes
one_is_evaluated = refl

no_such_export : first_missing three ((122 ∷ 122 ∷ []) ∷ a ∷ []) ≡ Some (122 ∷ 122 ∷ [])
no_such_export = refl

three_names_no_data : any_uses_data three.funcs ≡ false
three_names_no_data = search (rules, the_lemmas)

abbrev pub first_evaluated_left : Module
first_evaluated_left = record three { exports = export b 2 ∷ export c 3 ∷ []; datas = at 1024 (42 ∷ []) ∷ [] }

first_evaluated_refs : declared first_evaluated_left ≡ first_evaluated_left
first_evaluated_refs = search (rules, the_lemmas)

-- The export of the evaluated constructor is gone, and its byte is in the memory; the rest stays,
-- and nothing of the second constructor, which was stopped, is visible.
pub first_evaluated : evaluated_tree three (a ∷ b ∷ c ∷ []) [] ≡ first_evaluated_left
unfolding out-Instr denote.Hole.Carrier.out wrapped signed store_from stored little_bytes
first_evaluated = made three a [] [] false first_evaluated_left first_evaluated_left three_names_no_data first_evaluated_refs (a ∷ b ∷ c ∷ []) refl refl

abbrev pub first_kept_left : Module
first_kept_left = record three { funcs = three.funcs ++ func [] ∷ []; exports = export a 4 ∷ export b 2 ∷ export c 3 ∷ []; datas = at 1024 (42 ∷ []) ∷ [] }

first_kept_refs : declared first_kept_left ≡ first_kept_left
first_kept_refs = search (rules, the_lemmas)

-- The export of an evaluated constructor that is kept denotes a new function with an empty body.
pub first_kept : evaluated_tree three (a ∷ b ∷ c ∷ []) (a ∷ []) ≡ first_kept_left
unfolding out-Instr denote.Hole.Carrier.out wrapped signed store_from stored little_bytes
first_kept = made three a [] (a ∷ []) false first_kept_left first_kept_left three_names_no_data first_kept_refs (a ∷ b ∷ c ∷ []) refl refl

abbrev others_kept_left : Module
others_kept_left = record three { exports = export b 2 ∷ export c 3 ∷ []; datas = at 1024 (42 ∷ []) ∷ [] }

others_kept_refs : declared others_kept_left ≡ others_kept_left
others_kept_refs = search (rules, the_lemmas)

-- A name that is not an evaluated constructor's is kept in any case.
others_kept : evaluated_tree three (a ∷ b ∷ c ∷ []) (b ∷ (122 ∷ []) ∷ []) ≡ others_kept_left
unfolding out-Instr denote.Hole.Carrier.out wrapped signed store_from stored little_bytes
others_kept = made three a [] (b ∷ (122 ∷ []) ∷ []) false others_kept_left others_kept_left three_names_no_data others_kept_refs (a ∷ b ∷ c ∷ []) refl refl

abbrev pub two_kept_left : Module
two_kept_left = record three { funcs = three.funcs ++ func [] ∷ []; exports = export a 4 ∷ export b 2 ∷ export c 4 ∷ []; datas = at 1024 (42 ∷ []) ∷ [] }

two_kept_refs : declared two_kept_left ≡ two_kept_left
two_kept_refs = search (rules, the_lemmas)

-- Two kept exports of evaluated constructors share the empty function.
pub two_kept : evaluated_tree three (c ∷ a ∷ []) (a ∷ c ∷ []) ≡ two_kept_left
unfolding out-Instr denote.Hole.Carrier.out wrapped signed store_from stored little_bytes
two_kept = made three c (a ∷ []) (a ∷ c ∷ []) false two_kept_left two_kept_left three_names_no_data two_kept_refs (c ∷ a ∷ []) refl refl

abbrev pub twice_exported : Module
twice_exported = record three { exports = export a 1 ∷ export b 1 ∷ [] }

abbrev pub other_name_left : Module
other_name_left = record three { exports = export b 1 ∷ []; datas = at 1024 (42 ∷ []) ∷ [] }

other_name_refs : declared other_name_left ≡ other_name_left
other_name_refs = search (rules, the_lemmas)

-- Another export of the same function stays as it was.
pub other_name : evaluated_tree twice_exported (a ∷ []) [] ≡ other_name_left
unfolding out-Instr denote.Hole.Carrier.out wrapped signed store_from stored little_bytes
other_name = made twice_exported a [] [] false other_name_left other_name_left three_names_no_data other_name_refs (a ∷ []) refl refl

-- ---- a trap comes first, or the start traps: the module stays as it is, with its start ----

abbrev pub trapping : Module
trapping = record empty { funcs = func (i.Unreachable ∷ []) ∷ func [] ∷ []; exports = export a 0 ∷ export b 1 ∷ []; start = Some 1 }

abbrev pub starting : Module
starting = record trapping { start = Some 0 }

pub none_is_evaluated : evaluated_tree trapping (a ∷ b ∷ []) (a ∷ []) ≡ trapping
unfolding out-Instr denote.Hole.Carrier.out
none_is_evaluated = refl

pub not_even_started : evaluated_tree starting (b ∷ []) [] ≡ starting
unfolding out-Instr denote.Hole.Carrier.out
not_even_started = refl

trapping_names_no_data : any_uses_data trapping.funcs ≡ false
trapping_names_no_data = search (rules, the_lemmas)

abbrev pub start_made_left : Module
start_made_left = record trapping { exports = export a 0 ∷ []; start = None }

start_made_refs : declared start_made_left ≡ start_made_left
start_made_refs = search (rules, the_lemmas)

-- The start is gone where the trap comes second, after an evaluated constructor.
pub start_made : evaluated_tree trapping (b ∷ a ∷ []) [] ≡ start_made_left
unfolding out-Instr denote.Hole.Carrier.out wrapped signed store_from stored little_bytes
start_made = made trapping b [] [] false start_made_left start_made_left trapping_names_no_data start_made_refs (b ∷ a ∷ []) refl refl

-- ---- globals ----

abbrev pub ref_global : GlobalType
ref_global = record { ty = Ref func_ref; mutable = true }

-- A module with an imported global, of which the first two defined globals read the value. The
-- constructor sets the first of the defined globals to -1 and the fourth to itself.
abbrev pub counting : Module
counting = record empty {
  imports = import (im.Global fixed_i32) ∷ [];
  funcs = func (i.I32Const (negsuc 0) ∷ i.GlobalSet 1 ∷ i.RefFunc 0 ∷ i.GlobalSet 4 ∷ []) ∷ [];
  globals = global mutable_i32 (const.Global 0) ∷ global mutable_i32 (const.Global 0) ∷ global mutable_i32 (const.I32 (pos 5)) ∷ global ref_global (const.Null func_ref)
      ∷ global (record { ty = Ref extern_ref; mutable = true }) (const.Null extern_ref) ∷ global (record { ty = I64; mutable = false }) (const.I64 (negsuc 6)) ∷ [];
  exports = export a 0 ∷ [];
}

counting_names_no_data : any_uses_data counting.funcs ≡ false
counting_names_no_data = search (rules, the_lemmas)

abbrev pub values_left_left : Module
values_left_left = record counting {
  globals = global mutable_i32 (const.I32 (negsuc 0)) ∷ global mutable_i32 (const.Global 0) ∷ global mutable_i32 (const.I32 (pos 5)) ∷ global ref_global (const.Func 0)
      ∷ global (record { ty = Ref extern_ref; mutable = true }) (const.Null extern_ref) ∷ global (record { ty = I64; mutable = false }) (const.I64 (negsuc 6)) ∷ [];
  exports = [];
}

values_left_refs : declared values_left_left ≡ values_left_left
values_left_refs = search (rules, the_lemmas)

-- A global that was set has its value, and one whose value is unknown keeps its initialiser.
pub values_left : evaluated_tree counting (a ∷ []) [] ≡ values_left_left
unfolding out-Instr denote.Hole.Carrier.out wrapped signed store_from stored little_bytes
values_left = made counting a [] [] false values_left_left values_left_left counting_names_no_data values_left_refs (a ∷ []) refl refl

-- ---- references that an export alone declared ----

abbrev pub named : Module
named = record empty { funcs = func (i.RefFunc 0 ∷ i.Drop ∷ []) ∷ []; exports = export a 0 ∷ [] }

named_names_no_data : any_uses_data named.funcs ≡ false
named_names_no_data = search (rules, the_lemmas)

abbrev pub declared_again_left : Module
declared_again_left = record named { exports = [] }

abbrev pub declared_again_out : Module
declared_again_out = record named { exports = []; elems = declaring (0 ∷ []) ∷ [] }

declared_again_refs : declared declared_again_left ≡ declared_again_out
declared_again_refs = search (rules, the_lemmas)

-- A function that a body names is declared where its export is removed.
pub declared_again : evaluated_tree named (a ∷ []) [] ≡ declared_again_out
unfolding out-Instr denote.Hole.Carrier.out wrapped signed store_from stored little_bytes
declared_again = made named a [] [] false declared_again_left declared_again_out named_names_no_data declared_again_refs (a ∷ []) refl refl

abbrev declared_too_left : Module
declared_too_left = record named { funcs = named.funcs ++ func [] ∷ []; exports = export a 1 ∷ [] }

abbrev declared_too_out : Module
declared_too_out = record named { funcs = named.funcs ++ func [] ∷ []; exports = export a 1 ∷ []; elems = declaring (0 ∷ []) ∷ [] }

declared_too_refs : declared declared_too_left ≡ declared_too_out
declared_too_refs = search (rules, the_lemmas)

-- A function that a body names is declared where its export denotes the empty function instead.
declared_too : evaluated_tree named (a ∷ []) (a ∷ []) ≡ declared_too_out
unfolding out-Instr denote.Hole.Carrier.out wrapped signed store_from stored little_bytes
declared_too = made named a [] (a ∷ []) false declared_too_left declared_too_out named_names_no_data declared_too_refs (a ∷ []) refl refl

-- ---- the type of the empty function ----

-- Three function types, of which the second and the third have no parameters and no results.
abbrev pub three_types : List FuncType
three_types = record { params = I32 ∷ []; results = [] } ∷ record { params = []; results = [] } ∷ record { params = []; results = [] } ∷ []

abbrev pub typed : Module
typed = record empty { types = three_types; funcs = record { ty = 2; locals = []; body = [] } ∷ []; exports = export a 0 ∷ [] }

typed_names_no_data : any_uses_data typed.funcs ≡ false
typed_names_no_data = search (rules, the_lemmas)

abbrev pub least_type_left : Module
least_type_left = record typed { funcs = typed.funcs ++ record { ty = 1; locals = []; body = [] } ∷ []; exports = export a 1 ∷ [] }

least_type_refs : declared least_type_left ≡ least_type_left
least_type_refs = search (rules, the_lemmas)

-- The type of the empty function is the first one without parameters and results.
pub least_type : evaluated_tree typed (a ∷ []) (a ∷ []) ≡ least_type_left
unfolding out-Instr denote.Hole.Carrier.out wrapped signed store_from stored little_bytes
least_type = made typed a [] (a ∷ []) false least_type_left least_type_left typed_names_no_data least_type_refs (a ∷ []) refl refl

-- ---- data segments ----

-- A module whose constructor drops the third data segment, and in which a function that is never
-- called names the second.
abbrev pub segments : Module
segments = record empty {
  funcs = func (i.DataDrop 2 ∷ []) ∷ func (i.Block bt.Empty (i.DataDrop 1 ∷ []) ∷ []) ∷ [];
  mems = page ∷ [];
  exports = export a 0 ∷ [];
  datas = at 4095 (7 ∷ 8 ∷ []) ∷ passive (9 ∷ []) ∷ passive (10 ∷ []) ∷ [];
}

segments_names_data : any_uses_data segments.funcs ≡ true
segments_names_data = search (rules, the_lemmas)

abbrev pub old_ones_left : Module
old_ones_left = record segments { exports = []; datas = passive [] ∷ passive (9 ∷ []) ∷ passive [] ∷ at 4095 (7 ∷ 8 ∷ []) ∷ [] }

old_ones_refs : declared old_ones_left ≡ old_ones_left
old_ones_refs = search (rules, the_lemmas)

-- Each data segment keeps its index: the active one and the dropped one are empty, and the passive
-- one that was not dropped stays. After them come the segments of what the memory holds.
pub old_ones : evaluated_tree segments (a ∷ []) [] ≡ old_ones_left
unfolding out-Instr denote.Hole.Carrier.out wrapped signed store_from stored little_bytes
old_ones = made segments a [] [] true old_ones_left old_ones_left segments_names_data old_ones_refs (a ∷ []) refl refl

abbrev pub unnamed : Module
unnamed = record segments { funcs = func [] ∷ [] }

unnamed_names_no_data : any_uses_data unnamed.funcs ≡ false
unnamed_names_no_data = search (rules, the_lemmas)

abbrev pub left_out_left : Module
left_out_left = record unnamed { exports = []; datas = at 4095 (7 ∷ 8 ∷ []) ∷ [] }

left_out_refs : declared left_out_left ≡ left_out_left
left_out_refs = search (rules, the_lemmas)

-- The old data segments are left out where no body names a data segment.
pub left_out : evaluated_tree unnamed (a ∷ []) [] ≡ left_out_left
unfolding out-Instr denote.Hole.Carrier.out wrapped signed store_from stored little_bytes
left_out = made unnamed a [] [] false left_out_left left_out_left unnamed_names_no_data left_out_refs (a ∷ []) refl refl

-- ---- a module as a linker writes it ----

abbrev pub ctors : Text
ctors = 95 ∷ 95 ∷ 119 ∷ 97 ∷ 115 ∷ 109 ∷ 95 ∷ 99 ∷ 97 ∷ 108 ∷ 108 ∷ 95 ∷ 99 ∷ 116 ∷ 111 ∷ 114 ∷ 115 ∷ []

abbrev pub numbers : FuncType
numbers = record { params = I32 ∷ []; results = I32 ∷ [] }

-- A module with the functions log, which is imported, ctors, init, twice and run. The memory begins
-- with two bytes at 1024, and ctors calls init, which stores 42 at 1028.
abbrev pub linked : Module
linked = record empty {
  types = record { params = []; results = [] } ∷ numbers ∷ record { params = I32 ∷ []; results = [] } ∷ [];
  imports = record { «module» = 101 ∷ 110 ∷ 118 ∷ []; field = 108 ∷ 111 ∷ 103 ∷ []; desc = im.Func 2 } ∷ [];
  funcs = func (i.Call 2 ∷ []) ∷ func (num 0 ∷ num 42 ∷ i.Store I32Store (record { align = 2; offset = 1028; memory = 0 }) ∷ [])
      ∷ record { ty = 1; locals = []; body = i.LocalGet 0 ∷ num 1 ∷ i.Bin I32Shl ∷ [] } ∷ record { ty = 1; locals = []; body = i.LocalGet 0 ∷ i.Call 0 ∷ i.LocalGet 0 ∷ num 1 ∷ i.CallIndirect 1 0 ∷ [] } ∷ [];
  tables = record { ty = func_ref; limits = record { min = 5; max = Some 5 } } ∷ [];
  mems = record { min = 2; max = None } ∷ [];
  globals = global mutable_i32 (const.I32 (pos 66576)) ∷ [];
  exports = record { name = 109 ∷ []; desc = ex.Memory 0 } ∷ export ctors 1 ∷ export (114 ∷ []) 4 ∷ [];
  elems = record { mode = elem.Active 0 (const.I32 (pos 1)); ty = func_ref; items = const.Func 3 ∷ [] } ∷ [];
  datas = at 1024 (104 ∷ 105 ∷ []) ∷ [];
}

linked_names_no_data : any_uses_data linked.funcs ≡ false
linked_names_no_data = search (rules, the_lemmas)

abbrev pub linked_evaluated_left : Module
linked_evaluated_left = record linked { exports = record { name = 109 ∷ []; desc = ex.Memory 0 } ∷ export (114 ∷ []) 4 ∷ []; datas = at 1024 (104 ∷ 105 ∷ 0 ∷ 0 ∷ 42 ∷ []) ∷ [] }

linked_evaluated_refs : declared linked_evaluated_left ≡ linked_evaluated_left
linked_evaluated_refs = search (rules, the_lemmas)

pub linked_evaluated : evaluated_tree linked (ctors ∷ []) [] ≡ linked_evaluated_left
unfolding out-Instr denote.Hole.Carrier.out wrapped signed store_from stored little_bytes
linked_evaluated = made linked ctors [] [] false linked_evaluated_left linked_evaluated_left linked_names_no_data linked_evaluated_refs (ctors ∷ []) refl refl

-- ---- a loop of so many rounds, which changes nothing: one round ----

abbrev pub loop : Module
loop = record empty {
  funcs = record { ty = 0; locals = record { count = 1; ty = I32 } ∷ []; body = num 1 ∷ i.LocalSet 0 ∷ i.Loop bt.Empty (i.LocalGet 0 ∷ num 1 ∷ i.Bin I32Sub ∷ i.LocalTee 0 ∷ i.BrIf 0 ∷ []) ∷ [] } ∷ [];
  exports = export a 0 ∷ [];
}

loop_names_no_data : any_uses_data loop.funcs ≡ false
loop_names_no_data = search (rules, the_lemmas)

abbrev loop_evaluated_left : Module
loop_evaluated_left = record loop { exports = [] }

loop_evaluated_refs : declared loop_evaluated_left ≡ loop_evaluated_left
loop_evaluated_refs = search (rules, the_lemmas)

loop_evaluated : evaluated_tree loop (a ∷ []) [] ≡ loop_evaluated_left
unfolding out-Instr denote.Hole.Carrier.out shown-the_row-Instr-0 denote.Hole.Carrier.shown denote.Hole.Carrier.hidden wrapped bin_from bin_to bin_value
loop_evaluated = made loop a [] [] false loop_evaluated_left loop_evaluated_left loop_names_no_data loop_evaluated_refs (a ∷ []) refl refl
