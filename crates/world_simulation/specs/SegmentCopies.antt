-- Segments that are copied one after the other: what stands at each address is overwritten in
-- order, and each segment that is copied is dropped (WebAssembly Core 2.0, section 4.5.4).
use Rattle.std.specs.Prelude.{◌≡◌, ℕ, suc, ◌+◌, false, true, List, [], ◌∷◌, length, Option, Some, None, refl, slice_get, slice_set}
use Rattle.base_lists.specs.Options.{◌>>=◌}
use Rattle.wasm_tree_spec.specs.Prelude.{ConstExpr, Module}
use Rattle.wasm_meaning.specs.Prelude.{overwrite, numbers, RefVal, Val, Inst, Table, Memory, Elem, Data, Store, SetTable, SetMemory, DropElem, DropData, changed, no_items, no_bytes, Environment}
use Rattle.wasm_meaning.specs.Prelude.{Filled, or_trapped, and_then, value_of, copy_slots, copy_bytes, store_with, joined_stores, segments, own_segments}
use Rattle.world_simulation.specs.Prelude.{one}
use Rattle.world_simulation.specs.InstantiatedStores.{Copy, nothing, contents, elem_copies, data_copies, Leaves}

-- ---- tables and memories ----

-- What holds contents (a table or a memory), the segments that are copied into it, and the store
-- with one of these changed.
pub record Kind (C S A : Type 0) : Type 0 where
  pub holders : Store → List C
  pub segments : Store → List S
  pub held : C → List A
  pub holding : C → List A → C
  pub items : S → List A
  pub dropped : S
  pub put : Store → ℕ → C → Store
  pub drop : Store → ℕ → Store
  pub fill : Store → (segment address : ℕ) → C → Option (List A) → Filled
  pub holders_put : (s : Store) (a : ℕ) (c : C) → holders (put s a c) ≡ slice_set (holders s) a c
  pub segments_put : (s : Store) (a : ℕ) (c : C) → segments (put s a c) ≡ segments s
  pub holders_drop : (s : Store) (n : ℕ) → holders (drop s n) ≡ holders s
  pub segments_drop : (s : Store) (n : ℕ) → segments (drop s n) ≡ slice_set (segments s) n dropped
  pub held_holding : (c : C) (xs : List A) → held (holding c xs) ≡ xs
  pub holding_again : (c : C) (xs ys : List A) → holding (holding c xs) ys ≡ holding c ys
  pub holding_held : (c : C) → holding c (held c) ≡ c
  pub filled : (s : Store) (n a : ℕ) (c : C) (xs : List A) → fill s n a c (Some xs) ≡ record { store = drop (put s a (holding c xs)) n; trapped = false }
  pub traps : (s : Store) (n a : ℕ) (c : C) → fill s n a c None ≡ record { store = s; trapped = true }

-- tables, into which element segments are copied
abbrev pub tables : Kind Table Elem RefVal
tables = record {
  holders = λ s. s.tables;
  segments = λ s. s.elems;
  held = λ t. t.slots;
  holding = λ t slots. record t { slots = slots };
  items = λ e. e.items;
  dropped = no_items;
  put = λ s a t. changed s (SetTable a t);
  drop = λ s n. changed s (DropElem n);
  fill = copy_slots;
  holders_put = λ s a c. refl;
  segments_put = λ s a c. refl;
  holders_drop = λ s n. refl;
  segments_drop = λ s n. refl;
  held_holding = λ c xs. refl;
  holding_again = λ c xs ys. refl;
  holding_held = λ c. refl;
  filled = λ s n a c xs. refl;
  traps = λ s n a c. refl;
}

-- memories, into which data segments are copied
abbrev pub memories : Kind Memory Data ℕ
memories = record {
  holders = λ s. s.mems;
  segments = λ s. s.datas;
  held = λ m. m.bytes;
  holding = λ m bytes. record m { bytes = bytes };
  items = λ d. d.bytes;
  dropped = no_bytes;
  put = λ s a m. changed s (SetMemory a m);
  drop = λ s n. changed s (DropData n);
  fill = copy_bytes;
  holders_put = λ s a c. refl;
  segments_put = λ s a c. refl;
  holders_drop = λ s n. refl;
  segments_drop = λ s n. refl;
  held_holding = λ c xs. refl;
  holding_again = λ c xs ys. refl;
  holding_held = λ c. refl;
  filled = λ s n a c xs. refl;
  traps = λ s n a c. refl;
}

-- ---- copies, run one after the other ----

module _ {C S A : Type 0} (k : Kind C S A) where
  -- the copy of the segment at address `n`
  abbrev pub run : Store → ℕ → Copy A → Filled
  run s n nothing = record { store = s; trapped = false }
  run s n (contents to offset copied) =
      or_trapped s (offset >>= λ q. to >>= λ a. slice_get (k.holders s) a >>= λ c. slice_get (k.segments s) n >>= λ e. Some (k.fill s n a c (overwrite (k.held c) q (k.items e))))

  -- those of the segments from one address on
  abbrev pub runs : Store → (from : ℕ) → List (Copy A) → Filled
  runs s n [] = record { store = s; trapped = false }
  runs s n (c ∷ cs) = and_then (run s n c) (λ s. runs s (suc n) cs)

  -- the copy is of this segment
  abbrev pub IsOf : Copy A → S → Type 0
  IsOf nothing e = Unit {0}
  IsOf (contents to offset copied) e = copied ≡ Some (k.items e)

  -- what a copy leaves of its segment
  abbrev pub left : Copy A → S → S
  left nothing e = e
  left (contents to offset copied) e = k.dropped

  -- each copy is of the segment at its place, from `n` on
  abbrev pub AreOf : Store → ℕ → List (Copy A) → Type 0
  AreOf s n cs = (j : ℕ) (c : Copy A) → slice_get cs j ≡ Some c → (e : S) × (slice_get (k.segments s) (n + j) ≡ Some e) × IsOf c e

-- the copies of a module's segments, of which the first element segment is at `n` and the first
-- data segment at `k`
abbrev pub copies_run : (ConstExpr → Option Val) → Module → Inst → (n k : ℕ) → Store → Filled
copies_run value m i n k s = and_then (runs tables s n (elem_copies value i m.elems)) (λ s. runs memories s k (data_copies value i m.datas))

-- ---- the laws ----

-- To copy the active segments of a module is to run their copies in order.
abbrev pub OwnSegmentsRunAsCopies : Type 0
OwnSegmentsRunAsCopies = (value : ConstExpr → Option Val) (m : Module) (i : Inst) (n k : ℕ) → i.elems ≡ numbers n (length m.elems) → i.datas ≡ numbers k (length m.datas) → (s : Store) →
    own_segments value m i s ≡ copies_run value m i n k s

-- The same for the world of a module alone.
abbrev pub SegmentsAloneRunAsCopies : Type 0
SegmentsAloneRunAsCopies =
    (env : Environment) (m : Module) (i : Inst) (n k : ℕ) → i.elems ≡ numbers n (length m.elems) → i.datas ≡ numbers k (length m.datas) → (s : Store) →
    segments env (one m) (i ∷ []) s ≡ copies_run (value_of env (one m) (i ∷ []) 0) m i n k s

-- If no segment traps, the store has after it what the module leaves, whatever the values of the
-- constant expressions are.
abbrev pub OwnSegmentsLeave : Type 0
OwnSegmentsLeave =
    (value : ConstExpr → Option Val) (m : Module) (i : Inst) (before t : Store) → store_with value m i ≡ Some t → i.elems ≡ numbers (length before.elems) (length m.elems) →
    i.datas ≡ numbers (length before.datas) (length m.datas) →
    (own_segments value m i (joined_stores before t)).trapped ≡ false → Leaves value m i before (own_segments value m i (joined_stores before t)).store
