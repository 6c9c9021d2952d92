-- If addresses that code may name are related as addresses of stores, the next instruction names
-- related addresses.
use Rattle.base_lists.proofs.Common.{ℕ, List, [], ◌∷◌, Option, true, false}
use Rattle.wasm_tree_spec.specs.Prelude.{Space, Instr}
use Rattle.wasm_tree.specs.declared.instr.Instr.TheOpen.{Instr-F}
use Rattle.wasm_meaning.specs.Prelude.{Inst, Level, Entry, Running, Mark, Opening, Waiting, Ended, Growing}
use Rattle.run_simulation.specs.Related
use Rattle.run_simulation.specs.Prelude.{Pairing, OptRel, none, some, AreIndicesRelated, ArgRel, OpRel, NextKnown, TopKnown, EntriesKnown}

module _ (R : Pairing) (known : (k : Space) (a b : ℕ) → R.named k a b → R.of k a b) (i j : Inst) where
  names_known : {k : Space} {o p : Option ℕ} → OptRel (R.named k) o p → OptRel (R.of k) o p
  names_known {k} (some {a = a} {b = b} p) = some (known k a b p)
  names_known none = none

  pub op_known : {o p : Instr-F Instr} → OpRel R i j false o p → OpRel R i j true o p
  op_known Related.unreachable = Related.unreachable
  op_known Related.nop = Related.nop
  op_known (Related.block p0 p1) = Related.block p0 p1
  op_known (Related.loop p0 p1) = Related.loop p0 p1
  op_known (Related.if_else p0 p1 p2) = Related.if_else p0 p1 p2
  op_known Related.br = Related.br
  op_known Related.br_if = Related.br_if
  op_known Related.br_table = Related.br_table
  op_known Related.return = Related.return
  op_known (Related.call p0) = Related.call (names_known p0)
  op_known (Related.call_indirect p0 p1) = Related.call_indirect p0 (names_known p1)
  op_known Related.drop = Related.drop
  op_known Related.select = Related.select
  op_known Related.select_typed = Related.select_typed
  op_known Related.local_get = Related.local_get
  op_known Related.local_set = Related.local_set
  op_known Related.local_tee = Related.local_tee
  op_known (Related.global_get p0) = Related.global_get (names_known p0)
  op_known (Related.global_set p0) = Related.global_set (names_known p0)
  op_known (Related.table_get p0) = Related.table_get (names_known p0)
  op_known (Related.table_set p0) = Related.table_set (names_known p0)
  op_known (Related.load p0) = Related.load (record { offset = p0.offset; memory = names_known p0.memory })
  op_known (Related.store p0) = Related.store (record { offset = p0.offset; memory = names_known p0.memory })
  op_known (Related.memory_size p0) = Related.memory_size (names_known p0)
  op_known (Related.memory_grow p0) = Related.memory_grow (names_known p0)
  op_known Related.i32_const = Related.i32_const
  op_known Related.i64_const = Related.i64_const
  op_known Related.un = Related.un
  op_known Related.bin = Related.bin
  op_known Related.ref_null = Related.ref_null
  op_known Related.ref_is_null = Related.ref_is_null
  op_known (Related.ref_func p0) = Related.ref_func (names_known p0)
  op_known (Related.memory_init p0 p1) = Related.memory_init (names_known p0) (names_known p1)
  op_known (Related.data_drop p0) = Related.data_drop (names_known p0)
  op_known (Related.memory_copy p0 p1) = Related.memory_copy (names_known p0) (names_known p1)
  op_known (Related.memory_fill p0) = Related.memory_fill (names_known p0)
  op_known (Related.table_init p0 p1) = Related.table_init (names_known p0) (names_known p1)
  op_known (Related.elem_drop p0) = Related.elem_drop (names_known p0)
  op_known (Related.table_copy p0 p1) = Related.table_copy (names_known p0) (names_known p1)
  op_known (Related.table_grow p0) = Related.table_grow (names_known p0)
  op_known (Related.table_size p0) = Related.table_size (names_known p0)
  op_known (Related.table_fill p0) = Related.table_fill (names_known p0)

  next_known : (c d : List Instr) → NextKnown R i j c d
  next_known (o ∷ c) (p ∷ d) = λ r. op_known r
  next_known [] d = tt
  next_known (o ∷ c) [] = tt

  pub top_known : (ls ms : List Level) → TopKnown R i j ls ms
  top_known (l ∷ ls) (m ∷ ms) = next_known l.code m.code
  top_known [] ms = tt
  top_known (l ∷ ls) [] = tt

pub entries_known : (R : Pairing) → ((k : Space) (a b : ℕ) → R.named k a b → R.of k a b) → (es fs : List Entry) → EntriesKnown R es fs
entries_known R known (Running f ∷ es) (Running g ∷ fs) = top_known R known f.inst g.inst f.levels g.levels
entries_known R known (Running f ∷ es) (Mark ∷ fs) = tt
entries_known R known (Running f ∷ es) (Opening ys ∷ fs) = tt
entries_known R known (Running f ∷ es) (Waiting us ∷ fs) = tt
entries_known R known (Running f ∷ es) (Ended ws ∷ fs) = tt
entries_known R known (Running f ∷ es) (Growing h ∷ fs) = tt
entries_known R known (Running f ∷ es) [] = tt
entries_known R known (Mark ∷ es) fs = tt
entries_known R known (Opening xs ∷ es) fs = tt
entries_known R known (Waiting ts ∷ es) fs = tt
entries_known R known (Ended vs ∷ es) fs = tt
entries_known R known (Growing g ∷ es) fs = tt
entries_known R known [] fs = tt
