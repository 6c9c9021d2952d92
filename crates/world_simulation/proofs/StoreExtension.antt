-- Stores that extend others: a store extends itself, an extension of an extension is one, and a
-- write at one place may be one.
use Rattle.base_lists.proofs.Common.{◌≡◌, ℕ, ◌≤◌, List, length, refl, sym, ap, subst, ◌∙◌, arith, slice_set, slice_get, Some, length-set, same_Some}
use Rattle.wasm_meaning.specs.Prelude.{Table, Memory, Global, Store, Change, Keep, SetGlobal, SetMemory, SetTable, DropElem, DropData, changed, no_items, no_bytes}
use Rattle.world_simulation.specs.StoreExtension.{TableExtends, MemoryExtends, GlobalExtends, Extends}
pub use Rattle.base_lists.proofs.Common.{overwritten_length}
use Rattle.base_lists.specs.Related.{EachRelated}
use Rattle.base_lists.proofs.Related.{each_self, each_then, each_set}

pub table_stays : (t : Table) → TableExtends t t
table_stays t = record { type = refl; most = refl; size = omega arith }

pub memory_stays : (m : Memory) → MemoryExtends m m
memory_stays m = record { most = refl; size = omega arith }

pub global_stays : (g : Global) → GlobalExtends g g
global_stays g = record { type = refl; fixed = λ e. refl }

pub stays : (s : Store) → Extends s s
stays s = record {
  funcs = refl;
  tables = each_self TableExtends s.tables table_stays;
  mems = each_self MemoryExtends s.mems memory_stays;
  globals = each_self GlobalExtends s.globals global_stays;
  table_count = refl;
  memory_count = refl;
  global_count = refl;
  elem_count = refl;
  data_count = refl;
}

pub and_then : (s t u : Store) → Extends s t → Extends t u → Extends s u
and_then s t u h k = record {
  funcs = k.funcs ∙ h.funcs;
  tables = each_then TableExtends s.tables t.tables u.tables (λ x y z p q. let l : length x.slots ≤ length z.slots = omega (arith, p.size, q.size) in record { type = q.type ∙ p.type; most = q.most ∙ p.most; size = l }) h.tables k.tables;
  mems = each_then MemoryExtends s.mems t.mems u.mems (λ x y z p q. let l : x.pages ≤ z.pages = omega (arith, p.size, q.size) in record { most = q.most ∙ p.most; size = l }) h.mems k.mems;
  globals = each_then GlobalExtends s.globals t.globals u.globals (λ x y z p q. record { type = q.type ∙ p.type; fixed = λ e. q.fixed (ap (λ t. t.mutable) p.type ∙ e) ∙ p.fixed e }) h.globals k.globals;
  table_count = k.table_count ∙ h.table_count;
  memory_count = k.memory_count ∙ h.memory_count;
  global_count = k.global_count ∙ h.global_count;
  elem_count = k.elem_count ∙ h.elem_count;
  data_count = k.data_count ∙ h.data_count;
}

-- ---- a change ----

-- A list extends another if one place is written with what extends the old item.
each_put : {A : Type 0} (P : A → A → Type 0) (xs : List A) (n : ℕ) (old new : A) → ((x : A) → P x x) → slice_get xs n ≡ Some old → P old new → EachRelated P xs (slice_set xs n new)
each_put P xs n old new same there p = each_set P xs n new same (λ x e. subst (λ z. P z new) (same_Some old x (sym there ∙ e)) p)

-- The change writes what extends the entity that was at its address.
pub data Extending (s : Store) : Change → Type 0 where
  keeps : Extending s Keep
  global : {a : ℕ} {g h : Global} → slice_get s.globals a ≡ Some g → GlobalExtends g h → Extending s (SetGlobal a h)
  memory : {a : ℕ} {m n : Memory} → slice_get s.mems a ≡ Some m → MemoryExtends m n → Extending s (SetMemory a n)
  table : {a : ℕ} {t u : Table} → slice_get s.tables a ≡ Some t → TableExtends t u → Extending s (SetTable a u)
  elem_drops : {a : ℕ} → Extending s (DropElem a)
  data_drops : {a : ℕ} → Extending s (DropData a)

pub changed_extends : {s : Store} {c : Change} → Extending s c → Extends s (changed s c)
changed_extends {s} keeps = stays s
changed_extends {s} (global {a = a} {g = g} {h = h} e p) = let k = stays s in
    record { funcs = refl; tables = k.tables; mems = k.mems; globals = each_put GlobalExtends s.globals a g h global_stays e p; table_count = refl; memory_count = refl; global_count = length-set s.globals a h; elem_count = refl; data_count = refl }
changed_extends {s} (memory {a = a} {m = m} {n = n} e p) = let k = stays s in
    record { funcs = refl; tables = k.tables; mems = each_put MemoryExtends s.mems a m n memory_stays e p; globals = k.globals; table_count = refl; memory_count = length-set s.mems a n; global_count = refl; elem_count = refl; data_count = refl }
changed_extends {s} (table {a = a} {t = t} {u = u} e p) = let k = stays s in
    record { funcs = refl; tables = each_put TableExtends s.tables a t u table_stays e p; mems = k.mems; globals = k.globals; table_count = length-set s.tables a u; memory_count = refl; global_count = refl; elem_count = refl; data_count = refl }
changed_extends {s} (elem_drops {a = a}) = let k = stays s in
    record { funcs = refl; tables = k.tables; mems = k.mems; globals = k.globals; table_count = refl; memory_count = refl; global_count = refl; elem_count = length-set s.elems a no_items; data_count = refl }
changed_extends {s} (data_drops {a = a}) = let k = stays s in
    record { funcs = refl; tables = k.tables; mems = k.mems; globals = k.globals; table_count = refl; memory_count = refl; global_count = refl; elem_count = refl; data_count = length-set s.datas a no_bytes }
