-- An instruction whose operands name related addresses names related addresses.
use Rattle.base_lists.proofs.Common.{◌≡◌, ℕ, Option, Some, None, refl, true, false, slice_get}
use Rattle.base_lists.specs.Every.{Every}
use Rattle.wasm_tree_spec.specs.Prelude.{Space, Types, Functions, Tables, Memories, Globals, ElementSegments, DataSegments, Operand, Instr, operands}
use Rattle.wasm_tree.specs.declared.instr.Instr.TheOpen.{Instr-F}
use Rattle.wasm_meaning.specs.Prelude.{Inst}
use Rattle.run_simulation.specs.Related
use Rattle.run_simulation.specs.Prelude.{Pairing, OptRel, none, some, ArgRel, OpRel}

-- The address of an index of an index space; types have none.
abbrev pub address_at : Inst → Space → ℕ → Option ℕ
address_at i Types n = None
address_at i Functions n = slice_get i.funcs n
address_at i Tables n = slice_get i.tables n
address_at i Memories n = slice_get i.mems n
address_at i Globals n = slice_get i.globals n
address_at i ElementSegments n = slice_get i.elems n
address_at i DataSegments n = slice_get i.datas n

module _ (R : Pairing) (i j : Inst) where
  -- The addresses that the code relation gives an operand are related.
  abbrev pub Known : Operand → Type 0
  Known x = (a b : ℕ) → address_at i x.space x.index ≡ Some a → R.named x.space a b → R.of x.space a b

  names_known : {k : Space} {o p : Option ℕ} → ((a b : ℕ) → o ≡ Some a → R.named k a b → R.of k a b) → OptRel (R.named k) o p → OptRel (R.of k) o p
  names_known h (some {a = a} {b = b} p) = some (h a b refl p)
  names_known h none = none

  pub op_known : {o p : Instr-F Instr} → Every Known (operands o) → OpRel R i j false o p → OpRel R i j true o p
  op_known k Related.unreachable = Related.unreachable
  op_known k Related.nop = Related.nop
  op_known k (Related.block p0 p1) = Related.block p0 p1
  op_known k (Related.loop p0 p1) = Related.loop p0 p1
  op_known k (Related.if_else p0 p1 p2) = Related.if_else p0 p1 p2
  op_known k Related.br = Related.br
  op_known k Related.br_if = Related.br_if
  op_known k Related.br_table = Related.br_table
  op_known k Related.return = Related.return
  op_known k (Related.call p0) = Related.call (names_known k.0 p0)
  op_known k (Related.call_indirect p0 p1) = Related.call_indirect p0 (names_known k.1.0 p1)
  op_known k Related.drop = Related.drop
  op_known k Related.select = Related.select
  op_known k Related.select_typed = Related.select_typed
  op_known k Related.local_get = Related.local_get
  op_known k Related.local_set = Related.local_set
  op_known k Related.local_tee = Related.local_tee
  op_known k (Related.global_get p0) = Related.global_get (names_known k.0 p0)
  op_known k (Related.global_set p0) = Related.global_set (names_known k.0 p0)
  op_known k (Related.table_get p0) = Related.table_get (names_known k.0 p0)
  op_known k (Related.table_set p0) = Related.table_set (names_known k.0 p0)
  op_known k (Related.load p0) = Related.load (record { offset = p0.offset; memory = names_known k.0 p0.memory })
  op_known k (Related.store p0) = Related.store (record { offset = p0.offset; memory = names_known k.0 p0.memory })
  op_known k (Related.memory_size p0) = Related.memory_size (names_known k.0 p0)
  op_known k (Related.memory_grow p0) = Related.memory_grow (names_known k.0 p0)
  op_known k Related.i32_const = Related.i32_const
  op_known k Related.i64_const = Related.i64_const
  op_known k Related.un = Related.un
  op_known k Related.bin = Related.bin
  op_known k Related.ref_null = Related.ref_null
  op_known k Related.ref_is_null = Related.ref_is_null
  op_known k (Related.ref_func p0) = Related.ref_func (names_known k.0 p0)
  op_known k (Related.memory_init p0 p1) = Related.memory_init (names_known k.0 p0) (names_known k.1.0 p1)
  op_known k (Related.data_drop p0) = Related.data_drop (names_known k.0 p0)
  op_known k (Related.memory_copy p0 p1) = Related.memory_copy (names_known k.0 p0) (names_known k.1.0 p1)
  op_known k (Related.memory_fill p0) = Related.memory_fill (names_known k.0 p0)
  op_known k (Related.table_init p0 p1) = Related.table_init (names_known k.0 p0) (names_known k.1.0 p1)
  op_known k (Related.elem_drop p0) = Related.elem_drop (names_known k.0 p0)
  op_known k (Related.table_copy p0 p1) = Related.table_copy (names_known k.0 p0) (names_known k.1.0 p1)
  op_known k (Related.table_grow p0) = Related.table_grow (names_known k.0 p0)
  op_known k (Related.table_size p0) = Related.table_size (names_known k.0 p0)
  op_known k (Related.table_fill p0) = Related.table_fill (names_known k.0 p0)
