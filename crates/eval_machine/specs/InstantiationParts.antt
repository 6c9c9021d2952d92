-- What the parts of an instantiation do (WebAssembly Core 2.0, section 4.5.4).
use Rattle.std.specs.Prelude.{◌≡◌, ℕ, ◌+◌, ◌-◌, ◌*◌, ◌<◌, ◌≤◌, List, [], ◌∷◌, ◌++◌, map, length, is_some, Bool, true, false, cond, ◌&&◌, ◌||◌, Option, Some, None, Result, Ok, Err, slice_get}
use Rattle.std.specs.Prelude.{slice_set, nat_eq, nat_le, nat_lt}
use Rattle.base_lists.specs.Options.{◌>>=◌, all_there}
use Rattle.base_lists.specs.Places.{numbers, places}
use Rattle.wasm_tree_spec.specs.Prelude.{Tables, Memories, Globals, Limits, TableType, ConstExpr, ElemSeg, ElemMode, DataSeg, DataMode, Module, globals_of, imported_memories}
use Rattle.wasm_tree.specs.declared.module.ConstExpr.TheVariants as const
use Rattle.wasm_tree.specs.declared.module.ElemMode.TheVariants as elem
use Rattle.wasm_tree.specs.declared.module.DataMode.TheVariants as data'
use Rattle.wasm_num.specs.Operations.{wrapped}
use Rattle.wasm_meaning.specs.Prelude.{RefVal, Global, ref_of, PlacedSegment, global_with, new_elem, segments_in}
use Rattle.eval_spec.specs.declared.stop.Stop.{Stop}
use Rattle.eval_spec.specs.declared.stop.Stop.TheVariants as why
use Rattle.eval_spec.specs.Prelude.{State, Stage, Finished, stop_of, is_imported, too_many_blocks, imported_store, in_order, instantiated, own_inst, reads_global, unknown_at_first, unknown_items}
use Rattle.eval_spec.specs.Prelude.{value_in, with_data, with_elem}
use Rattle.eval_machine.specs.declared.value.Value.TheVariants as v
use Rattle.eval_machine.specs.declared.slots.Slot.{Slot}
use Rattle.eval_machine.specs.declared.slots.Slot.TheVariants as slot
use Rattle.block_pool.specs.Pages.{Pages, WritesBytes, blank, size, with_reached}
use Rattle.eval_machine.specs.declared.globals.Standing.{Standing}
use Rattle.eval_machine.specs.declared.globals.Standing.TheVariants as standing
use Rattle.eval_machine.specs.Written.{HoldsMost}
use Rattle.eval_spec.specs.declared.limits.TheConstants.{MOST_TURNS}
use Rattle.eval_machine.specs.declared.globals.GlobalSlot.{GlobalSlot}
use Rattle.eval_machine.specs.declared.kept.Kept.{Kept}
use Rattle.eval_machine.specs.DenotedValues.{global_of, is_of_import, is_unset}
use Rattle.eval_machine.specs.Kept.{MachineFits, IsUnmarked, datas_in, memory_in, state_in, written_in}
use Rattle.eval_machine.specs.Slots.{IsSlot, defined_table, filled_at, is_unknown_in, null_in, null_of, ref_in, slot_at, slot_count, slots_declared}

-- ---- element segments ----

-- The slot that an item leaves in a table. (No item of a valid segment is a number.)
abbrev pub item_slot : ConstExpr → Slot
item_slot (const.Null ty) = slot.Known (null_of ty)
item_slot (const.Func func) = slot.Known (v.Func (Some func))
item_slot _ = slot.Unknown

-- Slot `p` of table `t` is one of the `count` slots of `table` from `place` on.
abbrev pub is_within : (table place count : ℕ) → (t p : ℕ) → Bool
is_within table place count t p = nat_eq table t && (nat_le place p && nat_lt p (place + count))

-- The slots from `place` on hold the items, and every other slot holds what it held.
abbrev pub CopiesItems : (old new : List (ℕ × Slot)) → (table place : ℕ) → List ConstExpr → Type 0
CopiesItems old new table place items =
    (t p : ℕ) → p < 4294967296 → filled_at new t p ≡ cond (is_within table place (length items) t p) (slice_get items (p - place) >>= λ x. Some (item_slot x)) (filled_at old t p)

-- The table has `count` slots from the offset on.
abbrev pub has_slots : Option TableType → (offset : ConstExpr) → (count : ℕ) → Bool
has_slots (Some t) (const.I32 v) count = nat_le (wrapped 32 v + count) t.limits.min
has_slots _ _ count = false

-- What stops an active element segment with `count` items from being copied.
abbrev pub elem_stop : Module → (table : ℕ) → (offset : ConstExpr) → (count : ℕ) → Option Stop
elem_stop m table offset count =
    cond (reads_global offset || is_imported m Tables table) (Some why.Unknown) (cond (has_slots (defined_table m table) offset count) None (Some why.Trap))

-- The place that an i32 offset denotes; 0 for any other offset.
abbrev pub place_at : ConstExpr → ℕ
place_at (const.I32 v) = wrapped 32 v
place_at _ = 0

-- The segment is copied, or this stop prevents it.
abbrev pub FillsSlots : Module → (table : ℕ) → (offset : ConstExpr) → List ConstExpr → (old : List (ℕ × Slot)) → Option Stop → (new : List (ℕ × Slot)) → Type 0
FillsSlots m table offset items old None new = (elem_stop m table offset (length items) ≡ None) × CopiesItems old new table (place_at offset) items
FillsSlots m table offset items old (Some x) new = elem_stop m table offset (length items) ≡ Some x

-- The segment is copied if it is active; any other segment changes nothing.
abbrev pub FillsByMode : Module → ElemSeg → ElemMode → (old : List (ℕ × Slot)) → Option Stop → (new : List (ℕ × Slot)) → Type 0
FillsByMode m e (elem.Active table offset) old stop new = FillsSlots m table offset e.items old stop new
FillsByMode m e _ old stop new = (stop ≡ None) × (new ≡ old)

-- ---- a state at first, and after some segments ----

abbrev pub refs_in : Module → List ConstExpr → Option (List RefVal)
refs_in m items = all_there (λ x. value_in m x >>= ref_of) items

-- The state before any segment is copied: tables have their sizes and hold nulls, element segments
-- have their items, and no slot is unknown.
pub record StartsAs (m : Module) (first : State) : Type 0 where
  pub counts : (t : ℕ) → slot_count first t ≡ slots_declared m t
  pub slots : (t p : ℕ) → IsSlot first t p (null_in (defined_table m t) p)
  pub known : (t p : ℕ) → is_unknown_in first t p ≡ false
  pub items : first.unknown.items ≡ unknown_items 0 m.elems
  pub elems : (n : ℕ) (e : ElemSeg) → slice_get m.elems n ≡ Some e → (refs : List RefVal) × (refs_in m e.items ≡ Some refs) × (slice_get first.store.elems n ≡ Some (new_elem e.mode refs))

-- The state after the first `n` segments: only its tables, element segments and unknown slots
-- differ from those of `first`, and `filled` describes its slots.
pub record IsFilled (m : Module) (first : State) (n : ℕ) (filled : List (ℕ × Slot)) (s : State) : Type 0 where
  pub funcs : s.store.funcs ≡ first.store.funcs
  pub mems : s.store.mems ≡ first.store.mems
  pub globals : s.store.globals ≡ first.store.globals
  pub datas : s.store.datas ≡ first.store.datas
  pub unset : s.unknown.globals ≡ first.unknown.globals
  pub items : s.unknown.items ≡ first.unknown.items
  pub written : s.written ≡ first.written
  pub turns : s.turns ≡ first.turns
  pub elems : (k : ℕ) → n ≤ k → slice_get s.store.elems k ≡ slice_get first.store.elems k
  pub counts : (t : ℕ) → slot_count s t ≡ slot_count first t
  pub known : (t p : ℕ) → is_unknown_in s t p ≡ true → is_some (ref_in s t p) ≡ true
  pub slots : (t p : ℕ) → p < 4294967296 → IsSlot s t p (slot_at m filled t p)

-- The element segments from number `n` on, as an instantiation goes through them.
abbrev pub elems_from : Module → (n : ℕ) → List ElemSeg → List (PlacedSegment ElemSeg)
elems_from m n es = segments_in 0 (own_inst m) (numbers n (length es)) es

-- All active element segments are copied, or one is stopped for this reason.
abbrev pub FillsTables : Module → (State → Stage) → Option Stop → List (ℕ × Slot) → Type 0
FillsTables m ends None filled = (first : State) → StartsAs m first → (s : State) × (ends first ≡ Finished s) × IsFilled m first (length m.elems) filled s
FillsTables m ends (Some x) filled = (first : State) → StartsAs m first → stop_of (ends first) ≡ Some x

-- The stage after all element segments, beginning in state `s`.
abbrev pub elems_end : Module → State → Stage
elems_end m s = in_order (with_elem m) (Finished s) (elems_from m 0 m.elems)

-- ---- data segments ----

-- The memory is the one that the module defines, and it has `count` bytes from the offset on.
abbrev pub has_bytes : Module → Option Pages → (memory : ℕ) → (offset : ConstExpr) → (count : ℕ) → Bool
has_bytes m (Some p) memory (const.I32 v) count = nat_eq memory (length (imported_memories m.imports)) && nat_le (wrapped 32 v + count) (size p)
has_bytes m _ memory _ count = false

-- What stops an active data segment with `count` bytes from being written.
abbrev pub data_stop : Module → Option Pages → (memory : ℕ) → (offset : ConstExpr) → (count : ℕ) → Option Stop
data_stop m p memory offset count =
    cond (reads_global offset || is_imported m Memories memory) (Some why.Unknown)
    (cond (has_bytes m p memory offset count)
    (cond (too_many_blocks (with_reached (place_at offset) count 0 (written_in p))) (Some why.Memory) None)
    (Some why.Trap))

abbrev pub WritesIn : (old new : Option Pages) → (place : ℕ) → List ℕ → Type 0
WritesIn (Some p) (Some q) place bytes = WritesBytes p q place bytes
WritesIn _ _ place bytes = ⊥

-- The bytes of a segment are written, or this stop prevents it.
abbrev pub PoursData : Module → (memory : ℕ) → (offset : ConstExpr) → List ℕ → (old : Option Pages) → Option Stop → (new : Option Pages) → Type 0
PoursData m memory offset bytes old None new = (data_stop m old memory offset (length bytes) ≡ None) × WritesIn old new (place_at offset) bytes
PoursData m memory offset bytes old (Some x) new = data_stop m old memory offset (length bytes) ≡ Some x

-- An active segment is written and then dropped; a passive one changes nothing.
abbrev pub PoursByMode : Module → (n : ℕ) → DataSeg → DataMode → (old : Option Pages) → (dropped : List Bool) → Option Stop → (new : Option Pages) → (after : List Bool) → Type 0
PoursByMode m n d (data'.Active memory offset) old dropped None new after = PoursData m memory offset d.bytes old None new × (after ≡ slice_set dropped n true)
PoursByMode m n d (data'.Active memory offset) old dropped (Some x) new after = PoursData m memory offset d.bytes old (Some x) new
PoursByMode m n d data'.Passive old dropped stop new after = (stop ≡ None) × ((new ≡ old) × (after ≡ dropped))

-- The state `s` with these pages as the memory that the module defines, and with these data
-- segments dropped.
abbrev pub data_state : Module → State → Option Pages → (dropped : List Bool) → State
data_state m s p dropped = record s { store = record s.store { mems = (imported_store m).mems ++ memory_in m.mems p; datas = datas_in m.datas dropped }; written = written_in p }

abbrev pub datas_from : Module → (n : ℕ) → List DataSeg → List (PlacedSegment DataSeg)
datas_from m n ds = segments_in 0 (own_inst m) (numbers n (length ds)) ds

-- The stage after all data segments, beginning in state `s`.
abbrev pub datas_end : Module → State → Stage
datas_end m s = in_order (with_data m) (Finished s) (datas_from m 0 m.datas)

-- All active data segments are written, or one is stopped for this reason.
abbrev pub PoursDatas : Module → (old : Option Pages) → (dropped : List Bool) → Option Stop → (new : Option Pages) → (after : List Bool) → Type 0
PoursDatas m old dropped None new after = (s : State) → datas_end m (data_state m s old dropped) ≡ Finished (data_state m s new after)
PoursDatas m old dropped (Some x) new after = (s : State) → stop_of (datas_end m (data_state m s old dropped)) ≡ Some x

-- ---- globals and the memory at first ----

-- What is known at first of a defined global with this initialiser.
abbrev pub standing_of : ConstExpr → Standing
standing_of (const.Global x) = standing.Unset
standing_of _ = standing.Known

-- At most one memory, of at most 65,536 pages.
abbrev pub LimitsFew : List Limits → Type 0
LimitsFew [] = Unit {0}
LimitsFew (l ∷ []) = l.min ≤ 65536
LimitsFew _ = ⊥

-- The bytes are zero, no block is written and no mark is set; if the module defines no memory,
-- there are no pages.
abbrev pub IsBlank : List Limits → Option Pages → Type 0
IsBlank [] None = Unit {0}
IsBlank (l ∷ []) (Some p) = (p.now ≡ blank (65536 * l.min)) × ((p.mark ≡ None) × HoldsMost p)
IsBlank _ _ = ⊥

-- The globals as they are at first: their values and types, and which of them are imported or
-- unknown.
pub record AreFirst (m : Module) (gs : List GlobalSlot) : Type 0 where
  pub defined : List Global
  pub there : all_there (global_with (value_in m)) m.globals ≡ Some defined
  pub values : map global_of gs ≡ (imported_store m).globals ++ defined
  pub unset : places (λ g. is_unset g.standing) gs 0 ≡ (unknown_at_first m).globals
  pub types : map (λ g. g.ty) gs ≡ globals_of m
  pub imported : (n : ℕ) (g : GlobalSlot) → slice_get gs n ≡ Some g → is_of_import g.standing ≡ is_imported m Globals n

-- ---- the instantiation without the start ----

-- Nothing stops the instantiation, and the machine has the state after it.
pub record IsInitialMachine (m : Module) (k : Kept) : Type 0 where
  pub fits : MachineFits m k
  pub unmarked : IsUnmarked k.memory
  pub ends : instantiated m MOST_TURNS ≡ Finished (state_in m k)

-- The instantiation without the start finishes with this machine, or is stopped for this reason.
abbrev pub InstantiatesTo : Module → Result Kept Stop → Type 0
InstantiatesTo m (Ok k) = IsInitialMachine m k
InstantiatesTo m (Err x) = stop_of (instantiated m MOST_TURNS) ≡ Some x
