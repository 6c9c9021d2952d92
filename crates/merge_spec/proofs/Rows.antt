-- Small merges, computed: the definitions give the faults and the modules that the rules ask for.
use Rattle.base_lists.proofs.Common.{◌≡◌, refl, ℕ, zero, suc, List, [], ◌∷◌, Option, Some, None, false, slice_get, length, ap, arith, true, pos}
use Rattle.wasm_tree_spec.specs.Prelude.{ValType, FuncType, Limits, Instr, GlobalType, Func, ImportDesc, ExportDesc, Import, Export, GlobalDef, Module}
use Rattle.wasm_tree.specs.declared.types.ValType.TheVariants as valt
use Rattle.wasm_tree.specs.declared.instr.Instr.TheVariants as i
use Rattle.wasm_tree.specs.declared.module.ImportDesc.TheVariants as im
use Rattle.wasm_tree.specs.declared.module.ExportDesc.TheVariants as ex
use Rattle.wasm_tree.specs.declared.module.ConstExpr.TheVariants as const
use Rattle.wasm_meaning.specs.Prelude.{Text, Part}
use Rattle.merge_spec.specs.declared.faults.LinkFault.TheVariants.{ImportMismatch, ImportCycle, LimitsClash, TooManyMemories, GlobalCycle}
use Rattle.merge_spec.specs.Faults.{link_fault, import_fault, clash_fault, memory_fault, memory_count, global_fault, defined_globals, stays, kept_limits}
use Rattle.merge_spec.specs.Types.{AreFirstAppearances}
use Rattle.merge_spec.specs.Merged.{merged, merged_types, place_of_type, map_of, merged_const, merged_import, starts, defined_funcs, all_exports, staying, staying_of, place_of_end, new_index}

abbrev a : Text
a = 97 ∷ []

abbrev b : Text
b = 98 ∷ []

abbrev f : Text
f = 102 ∷ []

abbrev g : Text
g = 103 ∷ []

abbrev x : Text
x = 120 ∷ []

abbrev env : Text
env = 101 ∷ 110 ∷ 118 ∷ []

abbrev empty : Module
empty = record { types = []; imports = []; funcs = []; tables = []; mems = []; globals = []; exports = []; start = None; elems = []; datas = [] }

abbrev part : Text → Module → Part
part name m = record { name = Some name; «module» = m }

abbrev import : Text → Text → ImportDesc → Import
import m n d = record { «module» = m; field = n; desc = d }

abbrev export : Text → ExportDesc → Export
export n d = record { name = n; desc = d }

abbrev limits : ℕ → Option ℕ → Limits
limits min max = record { min = min; max = max }

abbrev gives : FuncType
gives = record { params = []; results = valt.I32 ∷ [] }

abbrev takes : FuncType
takes = record { params = valt.I32 ∷ []; results = [] }

abbrev nothing : FuncType
nothing = record { params = []; results = [] }

abbrev func : ℕ → List Instr → Func
func ty body = record { ty = ty; locals = []; body = body }

-- ---- faults ----

-- Two parts each import what the other imports from the first.
abbrev turning : List Part
turning =
    part a (record empty { types = gives ∷ []; imports = import b x (im.Func 0) ∷ []; exports = export x (ex.Func 0) ∷ [] }) ∷
    part b (record empty { types = gives ∷ []; imports = import a x (im.Func 0) ∷ []; exports = export x (ex.Func 0) ∷ [] }) ∷ []

imports_without_an_end : link_fault turning false ≡ Some (ImportCycle 0 0)
unfolding link_fault import_fault
imports_without_an_end = refl

-- Two parts import one memory, with these limits each.
abbrev remembering : Limits → Limits → List Part
remembering l k = part a (record empty { imports = import env x (im.Memory l) ∷ [] }) ∷ part b (record empty { imports = import env x (im.Memory k) ∷ [] }) ∷ []

limits_that_meet : link_fault (remembering (limits 1 None) (limits 3 (Some 5))) false ≡ None
unfolding link_fault import_fault clash_fault kept_limits stays memory_fault memory_count global_fault defined_globals
limits_that_meet = refl

limits_that_clash : link_fault (remembering (limits 6 None) (limits 1 (Some 5))) false ≡ Some (LimitsClash 0 0)
unfolding link_fault import_fault clash_fault kept_limits stays memory_fault memory_count global_fault defined_globals
limits_that_clash = refl

one_memory_is_imported : (merged (remembering (limits 1 None) (limits 3 (Some 5))) []).imports ≡ import env x (im.Memory (limits 3 (Some 5))) ∷ []
unfolding merged merged_import staying stays
one_memory_is_imported = refl

abbrev each_with_a_memory : List Part
each_with_a_memory = part a (record empty { mems = limits 1 None ∷ [] }) ∷ part b (record empty { mems = limits 1 None ∷ [] }) ∷ []

two_memories : link_fault each_with_a_memory false ≡ Some TooManyMemories
unfolding link_fault import_fault clash_fault kept_limits stays memory_fault memory_count global_fault defined_globals
two_memories = refl

two_memories_where_several_may_be : link_fault each_with_a_memory true ≡ None
unfolding link_fault import_fault clash_fault kept_limits stays memory_fault memory_count global_fault defined_globals
two_memories_where_several_may_be = refl

-- A part imports a function at another type than that of the definition.
another_type : link_fault (part a (record empty { types = gives ∷ []; funcs = func 0 (i.I32Const (pos 7) ∷ []) ∷ []; exports = export f (ex.Func 0) ∷ [] }) ∷ part b (record empty { types = takes ∷ []; imports = import a f (im.Func 0) ∷ [] }) ∷ []) false ≡ Some (ImportMismatch 1 0)
unfolding link_fault import_fault
another_type = refl

-- An immutable global type, for globals whose values are read from themselves.
abbrev fixed : ValType → GlobalType
fixed t = record { ty = t; mutable = false }

abbrev circling : List Part
circling =
    part a (record empty { imports = import b x (im.Global (fixed valt.I32)) ∷ []; globals = record { ty = fixed valt.I32; init = const.Global 0 } ∷ []; exports = export x (ex.Global 1) ∷ [] }) ∷
    part b (record empty { imports = import a x (im.Global (fixed valt.I32)) ∷ []; globals = record { ty = fixed valt.I32; init = const.Global 0 } ∷ []; exports = export x (ex.Global 1) ∷ [] }) ∷ []

a_global_without_a_value : link_fault circling false ≡ Some (GlobalCycle 0 1)
unfolding link_fault import_fault clash_fault kept_limits stays memory_fault memory_count global_fault defined_globals
a_global_without_a_value = refl

-- ---- merged modules ----

abbrev seven : Func
seven = func 0 (i.I32Const (pos 7) ∷ [])

abbrev caller : Module
caller = record empty { types = gives ∷ []; imports = import a f (im.Func 0) ∷ []; funcs = func 0 (i.Call 0 ∷ []) ∷ []; exports = export g (ex.Func 1) ∷ [] }

abbrev calling : List Part
calling = part a (record empty { types = gives ∷ []; funcs = seven ∷ []; exports = export f (ex.Func 0) ∷ [] }) ∷ part b caller ∷ []

a_call_of_another_part : (map_of calling 1 caller).funcs ≡ 0 ∷ 1 ∷ []
unfolding map_of staying staying_of place_of_end new_index stays
a_call_of_another_part = refl

nothing_stays : (merged calling (Some f ∷ Some g ∷ [])).imports ≡ []
unfolding merged staying stays
nothing_stays = refl

one_type : (merged calling (Some f ∷ Some g ∷ [])).types ≡ gives ∷ []
unfolding merged merged_types
one_type = refl

-- The types of two parts, some of which are equal, are merged so that each appears once, where it
-- appears first.
abbrev with_types_of : Text → List FuncType → Part
with_types_of name types = part name (record empty { types = types })

three_types : (merged (with_types_of a (gives ∷ takes ∷ []) ∷ with_types_of b (takes ∷ nothing ∷ gives ∷ []) ∷ []) []).types ≡ gives ∷ takes ∷ nothing ∷ []
unfolding merged merged_types
three_types = refl

-- Types in another order, or with one that appears twice, are not the first appearances.
another_order : AreFirstAppearances (gives ∷ takes ∷ []) (takes ∷ gives ∷ []) → ⊥
another_order h = let w = h.in_order 0 1 takes gives (omega arith) refl refl 0 refl in let low = w.1 in omega (arith, low)

a_type_twice : AreFirstAppearances (gives ∷ gives ∷ []) (gives ∷ gives ∷ []) → ⊥
a_type_twice h = let e = h.apart 0 1 gives refl refl in omega (arith, e)

a_type_left_out : AreFirstAppearances (gives ∷ takes ∷ []) (gives ∷ []) → ⊥
a_type_left_out h = by (h.kept 1 takes refl)
  where
    by : (n : ℕ) × (slice_get (gives ∷ []) n ≡ Some takes) → ⊥
    by (zero, e) =
        let same : gives ≡ takes = cc in
        let many : 0 ≡ 1 = ap (λ (t : FuncType). length t.params) same in
        omega (arith, many)
    by (suc n, e) = absurd (cc)

both_exports : (merged calling (Some f ∷ Some g ∷ [])).exports ≡ export f (ex.Func 0) ∷ export g (ex.Func 1) ∷ []
unfolding merged all_exports map_of staying staying_of place_of_end new_index stays
both_exports = refl

abbrev five : GlobalDef
five = record { ty = fixed valt.I32; init = const.I32 (pos 5) }

a_value_of_another_part :
    merged (part a (record empty { globals = five ∷ []; exports = export x (ex.Global 0) ∷ [] }) ∷ part b (record empty { imports = import a x (im.Global (fixed valt.I32)) ∷ []; globals = record { ty = fixed valt.I32; init = const.Global 0 } ∷ [] }) ∷ []) (Some x ∷ []) ≡
    record empty { globals = five ∷ five ∷ []; exports = export x (ex.Global 0) ∷ [] }
unfolding merged merged_types place_of_type map_of merged_const merged_import starts defined_funcs all_exports staying staying_of place_of_end new_index stays
a_value_of_another_part = refl

abbrev starting : Text → Part
starting name = part name (record empty { types = nothing ∷ []; funcs = func 0 [] ∷ []; start = Some 0 })

two_starts : merged (starting a ∷ starting b ∷ []) [] ≡ record empty { types = nothing ∷ []; funcs = func 0 [] ∷ func 0 [] ∷ func 0 (i.Call 0 ∷ i.Call 1 ∷ []) ∷ []; start = Some 2 }
unfolding merged merged_types place_of_type map_of merged_const merged_import starts defined_funcs all_exports staying staying_of place_of_end new_index stays
two_starts = refl
