-- Why parts are not linked: the first fault, in this order. Every import is compared with its end;
-- then the limits of staying imports are checked; then the memories are counted; then the values of
-- globals are followed.
use Rattle.std.specs.Prelude.{◌≡◌, ℕ, suc, ◌+◌, ◌<◌, List, [], ◌∷◌, ◌++◌, length, Option, Some, None, Bool, true, false, cond, nat_lt, slice_get, unwrap_or, ◌&&◌}
use Rattle.wasm_tree_spec.specs.Prelude.{Memories, Globals, FuncType, Limits, TableType, GlobalType, ImportDesc, ExportDesc, ConstExpr, GlobalDef, Module, type_of_func, tables_of, memories_of}
use Rattle.wasm_tree_spec.specs.Prelude.{globals_of, same_func_type, same_ref, same_type}
use Rattle.base_lists.specs.Options.{◌>>=◌, first_given}
use Rattle.std.specs.Option.{option_or}
use Rattle.wasm_tree.specs.declared.module.ImportDesc.TheVariants as im
use Rattle.wasm_tree.specs.declared.module.ExportDesc.TheVariants as ex
use Rattle.wasm_meaning.specs.Prelude.{same_bool, meets, defined_before, Part, Site, End, Defined, Outside, count_of, has_kind, module_at, import_at, imports_of, sites, end_of, is_outside, linked_end}
use Rattle.wasm_meaning.specs.Prelude.{limits_of, met_limits, Read, read_of}
use Rattle.merge_spec.specs.declared.faults.LinkFault.{LinkFault}
use Rattle.merge_spec.specs.declared.faults.LinkFault.TheVariants.{ImportMismatch, ImportCycle, LimitsClash, TooManyMemories, GlobalCycle, NoMemory}

-- ---- external types (section 2.3.11) ----

pub data External : Type 0 where
  FuncOf : FuncType → External
  TableOf : TableType → External
  MemoryOf : Limits → External
  GlobalOf : GlobalType → External

-- what an import asks for
abbrev pub asked : Module → ImportDesc → Option External
asked m (im.Func ty) = slice_get m.types ty >>= λ t. Some (FuncOf t)
asked m (im.Table t) = Some (TableOf t)
asked m (im.Memory l) = Some (MemoryOf l)
asked m (im.Global t) = Some (GlobalOf t)

abbrev pub asked_at : List Part → Site → Option External
asked_at parts s = module_at parts s.part >>= λ m. slice_get m.imports s.import >>= λ i. asked m i.desc

-- the external type of an entry of an index space
abbrev pub external_of : Module → ExportDesc → Option External
external_of m (ex.Func i) = type_of_func m i >>= λ t. Some (FuncOf t)
external_of m (ex.Table i) = slice_get (tables_of m) i >>= λ t. Some (TableOf t)
external_of m (ex.Memory i) = slice_get (memories_of m) i >>= λ l. Some (MemoryOf l)
external_of m (ex.Global i) = slice_get (globals_of m) i >>= λ t. Some (GlobalOf t)

abbrev pub found : List Part → End → Option External
found parts (Defined e) = module_at parts e.part >>= λ m. external_of m e.what
found parts (Outside s) = asked_at parts s

-- the same kind and type, apart from the limits of tables and memories
abbrev pub same_but_limits : External → External → Bool
same_but_limits (FuncOf t) (FuncOf u) = same_func_type t u
same_but_limits (TableOf t) (TableOf u) = same_ref t.ty u.ty
same_but_limits (MemoryOf l) (MemoryOf k) = true
same_but_limits (GlobalOf t) (GlobalOf u) = same_type t.ty u.ty && same_bool t.mutable u.mutable
same_but_limits _ _ = false

-- the limits of a table or memory meet the demand
abbrev pub meets_limits : (demand : External) → External → Bool
meets_limits (TableOf d) (TableOf t) = meets t.limits.min t.limits.max d.limits
meets_limits (MemoryOf d) (MemoryOf l) = meets l.min l.max d
meets_limits _ _ = true

-- what is found at an import's end has the kind and type that the import asks for, and the limits,
-- if it is defined
abbrev pub suits : (demand : External) → End → External → Bool
suits d (Defined e) x = same_but_limits d x && meets_limits d x
suits d (Outside s) x = same_but_limits d x

abbrev pub is_suited : List Part → Site → End → Bool
is_suited parts s end = unwrap_or (asked_at parts s >>= λ d. found parts end >>= λ x. Some (suits d end x)) false

-- ---- the faults ----

-- the first fault of an element of the list
abbrev pub first_fault : {A : Type 0} → (A → Option LinkFault) → List A → Option LinkFault
first_fault = first_given

-- following the import never ends, or its end is not what the import asks for
abbrev pub end_fault : List Part → Site → Option End → Option LinkFault
end_fault parts s None = Some (ImportCycle s.part s.import)
end_fault parts s (Some end) = cond (is_suited parts s end) None (Some (ImportMismatch s.part s.import))

unfoldable pub import_fault : List Part → Site → Option LinkFault
import_fault parts s = end_fault parts s (end_of parts s)

-- an import stays in the merged module if it is its own end
unfoldable pub stays : List Part → Site → Bool
stays parts s = is_outside s (linked_end parts s)

-- the limits that an import keeps, if it is a table or memory that stays
unfoldable pub kept_limits : List Part → Site → Option Limits
kept_limits parts s = cond (stays parts s) (import_at parts s >>= λ i. limits_of i.desc >>= λ l. Some (met_limits parts s)) None

abbrev pub is_under : Option ℕ → ℕ → Bool
is_under None min = false
is_under (Some max) min = nat_lt max min

-- the limits that the import keeps have a minimum above their maximum
unfoldable pub clash_fault : List Part → Site → Option LinkFault
clash_fault parts s = kept_limits parts s >>= λ l. cond (is_under l.max l.min) (Some (LimitsClash s.part s.import)) None

abbrev pub is_staying_memory : List Part → Site → Bool
is_staying_memory parts s = stays parts s && (unwrap_or (import_at parts s >>= λ i. Some (has_kind Memories i)) false)

-- the number of memories that are defined, plus that of distinct ones that stay imported
unfoldable pub memory_count : List Part → ℕ
memory_count parts = count_of (is_staying_memory parts) (sites parts) + defined_before Memories parts (length parts)

unfoldable pub memory_fault : List Part → Option LinkFault
memory_fault parts = cond (nat_lt 1 (memory_count parts)) (Some TooManyMemories) None

-- a global that a part defines: its part, its index in that part's global space, and its value
-- expression
pub record DefinedGlobal : Type 0 where
  pub part : ℕ
  pub index : ℕ
  pub init : ConstExpr

abbrev pub defined_globals_in : (part index : ℕ) → List GlobalDef → List DefinedGlobal
defined_globals_in p n [] = []
defined_globals_in p n (g ∷ gs) = record { part = p; index = n; init = g.init } ∷ defined_globals_in p (suc n) gs

abbrev pub defined_globals_from : ℕ → List Part → List DefinedGlobal
defined_globals_from p [] = []
defined_globals_from p (part ∷ parts) = defined_globals_in p (length (imports_of Globals part.«module»)) part.«module».globals ++ defined_globals_from (suc p) parts

-- all defined globals, part by part, in the order of their indices
unfoldable pub defined_globals : List Part → List DefinedGlobal
defined_globals = defined_globals_from 0

abbrev pub value_fault : DefinedGlobal → Option Read → Option LinkFault
value_fault g None = Some (GlobalCycle g.part g.index)
value_fault g (Some r) = None

-- following the value of a global never ends
unfoldable pub global_fault : List Part → DefinedGlobal → Option LinkFault
global_fault parts g = value_fault g (read_of parts g.part g.init)

-- the first fault of linking parts by name, or none; if `many` is true, several memories are no
-- fault
unfoldable pub link_fault : List Part → (many : Bool) → Option LinkFault
link_fault parts many =
    option_or (first_fault (import_fault parts) (sites parts))
    (option_or (first_fault (clash_fault parts) (sites parts))
    (option_or (cond many None (memory_fault parts))
    (first_fault (global_fault parts) (defined_globals parts))))

-- if the fault names a part, its number is below `parts`
abbrev pub NamesPart : ℕ → LinkFault → Type 0
NamesPart parts (ImportMismatch part import) = part < parts
NamesPart parts (ImportCycle part import) = part < parts
NamesPart parts (LimitsClash part import) = part < parts
NamesPart parts TooManyMemories = Unit {0}
NamesPart parts (GlobalCycle part global) = part < parts
NamesPart parts NoMemory = Unit {0}

-- A fault of linking names a part that is there.
abbrev pub LinkFaultsNameParts : Type 0
LinkFaultsNameParts = (parts : List Part) (many : Bool) (fault : LinkFault) → link_fault parts many ≡ Some fault → NamesPart (length parts) fault

-- The want of memory is no fault of the parts.
abbrev pub NoPartsWantMemory : Type 0
NoPartsWantMemory = (parts : List Part) (many : Bool) → link_fault parts many ≡ Some NoMemory → ⊥

-- Parts without a fault have none where they may have several memories.
abbrev pub SeveralMemoriesAddNoFault : Type 0
SeveralMemoriesAddNoFault = (parts : List Part) (many : Bool) → link_fault parts many ≡ None → link_fault parts true ≡ None
