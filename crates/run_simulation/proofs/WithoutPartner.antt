-- Related changes leave what has no partner as it is, in either store.
use Rattle.base_lists.proofs.Common.{◌≡◌, ℕ, List, refl, subst, ◌∙◌, slice_set, slice_get, sym, set_other}
use Rattle.wasm_tree_spec.specs.Prelude.{Space, Tables, Memories, Globals, ElementSegments, DataSegments}
use Rattle.wasm_meaning.specs.Prelude.{Table, Memory, Global, Store, Change, Keep, SetGlobal, SetMemory, SetTable, DropElem, DropData, changed, no_items, no_bytes}
use Rattle.run_simulation.specs.Prelude.{Pairing, ChangeRel, turned, HasNoPartner, KeepsOthers}
use Rattle.run_simulation.specs.Related as related

-- The change is at an address of the second store that has a partner.
pub data Partnered (R : Pairing) : Change → Type 0 where
  keep : Partnered R Keep
  set_global : {a b : ℕ} {g : Global} → R.of Globals a b → Partnered R (SetGlobal b g)
  set_memory : {a b : ℕ} {m : Memory} → R.of Memories a b → Partnered R (SetMemory b m)
  set_table : {a b : ℕ} {t : Table} → R.of Tables a b → Partnered R (SetTable b t)
  drop_elem : {a b : ℕ} → R.of ElementSegments a b → Partnered R (DropElem b)
  drop_data : {a b : ℕ} → R.of DataSegments a b → Partnered R (DropData b)

module _ (R : Pairing) where
  pub second_partnered : {c d : Change} → ChangeRel R c d → Partnered R d
  second_partnered related.keep = keep
  second_partnered (related.set_global r q) = set_global r
  second_partnered (related.set_memory r) = set_memory r
  second_partnered (related.set_table r q) = set_table r
  second_partnered (related.drop_elem r) = drop_elem r
  second_partnered (related.drop_data r) = drop_data r

  pub first_partnered : {c d : Change} → ChangeRel R c d → Partnered (turned R) c
  first_partnered related.keep = keep
  first_partnered (related.set_global r q) = set_global r
  first_partnered (related.set_memory r) = set_memory r
  first_partnered (related.set_table r q) = set_table r
  first_partnered (related.drop_elem r) = drop_elem r
  first_partnered (related.drop_data r) = drop_data r

  -- A write at an address with a partner leaves what is at an address without one.
  elsewhere : {A : Type 0} (k : Space) (xs : List A) (a b : ℕ) (v : A) (c : ℕ) → R.of k a b → HasNoPartner R k c → slice_get (slice_set xs b v) c ≡ slice_get xs c
  elsewhere k xs a b v c r h = set_other xs b c v (λ e. h a (subst (λ x. R.of k a x) (sym e) r))

  pub change_keeps : {before s : Store} {c : Change} → Partnered R c → KeepsOthers R before s → KeepsOthers R before (changed s c)
  change_keeps keep h = h
  change_keeps {s = s} (set_global {a = a} {b = b} {g = g} r) h = record { funcs = h.funcs; tables = h.tables; mems = h.mems; elems = h.elems; datas = h.datas; globals = λ c n. elsewhere Globals s.globals a b g c r n ∙ h.globals c n }
  change_keeps {s = s} (set_memory {a = a} {b = b} {m = m} r) h = record { funcs = h.funcs; tables = h.tables; globals = h.globals; elems = h.elems; datas = h.datas; mems = λ c n. elsewhere Memories s.mems a b m c r n ∙ h.mems c n }
  change_keeps {s = s} (set_table {a = a} {b = b} {t = t} r) h = record { funcs = h.funcs; mems = h.mems; globals = h.globals; elems = h.elems; datas = h.datas; tables = λ c n. elsewhere Tables s.tables a b t c r n ∙ h.tables c n }
  change_keeps {s = s} (drop_elem {a = a} {b = b} r) h = record { funcs = h.funcs; tables = h.tables; mems = h.mems; globals = h.globals; datas = h.datas; elems = λ c n. elsewhere ElementSegments s.elems a b no_items c r n ∙ h.elems c n }
  change_keeps {s = s} (drop_data {a = a} {b = b} r) h = record { funcs = h.funcs; tables = h.tables; mems = h.mems; globals = h.globals; elems = h.elems; datas = λ c n. elsewhere DataSegments s.datas a b no_bytes c r n ∙ h.datas c n }

-- A store that is not changed keeps what has no partner.
pub none_changed : (R : Pairing) (s : Store) → KeepsOthers R s s
none_changed R s = record { funcs = refl; tables = λ b h. refl; mems = λ b h. refl; globals = λ b h. refl; elems = λ b h. refl; datas = λ b h. refl }
