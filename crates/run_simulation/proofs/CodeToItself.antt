-- Code is related to itself.
use Rattle.base_lists.proofs.Common.{◌≡◌, ℕ, List, [], ◌∷◌, refl, false, slice_get, Some, None, Option}
use Rattle.wasm_tree_spec.specs.Prelude.{Space, Functions, Tables, Memories, Globals, ElementSegments, DataSegments, BlockType, Instr, Row_of-Instr, end_of-Instr, more_of-Instr, items-the_row-Instr, items_shown-the_row-Instr-0}
use Rattle.wasm_tree.specs.declared.types.BlockType.TheVariants as bt
use Rattle.wasm_tree.specs.declared.instr.Instr.{out-Instr, Block', Loop', If'}
use Rattle.wasm_tree.specs.declared.instr.Instr.TheOpen.{Instr-F}
use Rattle.wasm_meaning.specs.Prelude.{Inst}
use Rattle.run_simulation.specs.Related
use Rattle.run_simulation.specs.Prelude.{Pairing, OptRel, none, some, AreIndicesRelated, BlockRel, empty, value, indexed, OpRel, CodeRel, end, then, NamesItself}

module _ (R : Pairing) (i : Inst) (h : NamesItself R i) where
  self : (k : Space) (xs : List ℕ) → ((n a : ℕ) → slice_get xs n ≡ Some a → R.named k a a) → (n : ℕ) → AreIndicesRelated R.named k xs xs n n
  self k xs all n = go (slice_get xs n) (all n)
    where
      go : (o : Option ℕ) → ((a : ℕ) → o ≡ Some a → R.named k a a) → OptRel (R.named k) o o
      go (Some a) f = some (f a refl)
      go None f = none

  block_self : (b : BlockType) → BlockRel i i b b
  block_self bt.Empty = empty
  block_self (bt.Value t) = value
  block_self (bt.Index k) = indexed refl

  abbrev func : (n : ℕ) → AreIndicesRelated R.named Functions i.funcs i.funcs n n
  func = self Functions i.funcs h.funcs

  abbrev table : (n : ℕ) → AreIndicesRelated R.named Tables i.tables i.tables n n
  table = self Tables i.tables h.tables

  abbrev memory : (n : ℕ) → AreIndicesRelated R.named Memories i.mems i.mems n n
  memory = self Memories i.mems h.mems

  abbrev global : (n : ℕ) → AreIndicesRelated R.named Globals i.globals i.globals n n
  global = self Globals i.globals h.globals

  abbrev elem_segment : (n : ℕ) → AreIndicesRelated R.named ElementSegments i.elems i.elems n n
  elem_segment = self ElementSegments i.elems h.elems

  abbrev data_segment : (n : ℕ) → AreIndicesRelated R.named DataSegments i.datas i.datas n n
  data_segment = self DataSegments i.datas h.datas

  -- The code that a layer holds is related to itself.
  abbrev Held : Instr-F Instr → Type 0
  Held (Instr-F.Block b c) = CodeRel R i i c c
  Held (Instr-F.Loop b c) = CodeRel R i i c c
  Held (Instr-F.If b c d) = CodeRel R i i c c × CodeRel R i i d d
  Held _ = Unit {0}

  layer_self : (l : Instr-F Instr) → Held l → OpRel R i i false l l
  layer_self Instr-F.Unreachable k = Related.unreachable
  layer_self Instr-F.Nop k = Related.nop
  layer_self (Instr-F.Block x0 x1) k = Related.block (block_self x0) k
  layer_self (Instr-F.Loop x0 x1) k = Related.loop (block_self x0) k
  layer_self (Instr-F.If x0 x1 x2) k = Related.if_else (block_self x0) k.0 k.1
  layer_self (Instr-F.Br x0) k = Related.br
  layer_self (Instr-F.BrIf x0) k = Related.br_if
  layer_self (Instr-F.BrTable x0 x1) k = Related.br_table
  layer_self Instr-F.Return k = Related.return
  layer_self (Instr-F.Call x0) k = Related.call (func x0)
  layer_self (Instr-F.CallIndirect x0 x1) k = Related.call_indirect refl (table x1)
  layer_self Instr-F.Drop k = Related.drop
  layer_self Instr-F.Select k = Related.select
  layer_self (Instr-F.SelectTyped x0) k = Related.select_typed
  layer_self (Instr-F.LocalGet x0) k = Related.local_get
  layer_self (Instr-F.LocalSet x0) k = Related.local_set
  layer_self (Instr-F.LocalTee x0) k = Related.local_tee
  layer_self (Instr-F.GlobalGet x0) k = Related.global_get (global x0)
  layer_self (Instr-F.GlobalSet x0) k = Related.global_set (global x0)
  layer_self (Instr-F.TableGet x0) k = Related.table_get (table x0)
  layer_self (Instr-F.TableSet x0) k = Related.table_set (table x0)
  layer_self (Instr-F.Load x0 x1) k = Related.load (record { offset = refl; memory = memory x1.memory })
  layer_self (Instr-F.Store x0 x1) k = Related.store (record { offset = refl; memory = memory x1.memory })
  layer_self (Instr-F.MemorySize x0) k = Related.memory_size (memory x0)
  layer_self (Instr-F.MemoryGrow x0) k = Related.memory_grow (memory x0)
  layer_self (Instr-F.I32Const x0) k = Related.i32_const
  layer_self (Instr-F.I64Const x0) k = Related.i64_const
  layer_self (Instr-F.Un x0) k = Related.un
  layer_self (Instr-F.Bin x0) k = Related.bin
  layer_self (Instr-F.RefNull x0) k = Related.ref_null
  layer_self Instr-F.RefIsNull k = Related.ref_is_null
  layer_self (Instr-F.RefFunc x0) k = Related.ref_func (func x0)
  layer_self (Instr-F.MemoryInit x0 x1) k = Related.memory_init (data_segment x0) (memory x1)
  layer_self (Instr-F.DataDrop x0) k = Related.data_drop (data_segment x0)
  layer_self (Instr-F.MemoryCopy x0 x1) k = Related.memory_copy (memory x0) (memory x1)
  layer_self (Instr-F.MemoryFill x0) k = Related.memory_fill (memory x0)
  layer_self (Instr-F.TableInit x0 x1) k = Related.table_init (elem_segment x0) (table x1)
  layer_self (Instr-F.ElemDrop x0) k = Related.elem_drop (elem_segment x0)
  layer_self (Instr-F.TableCopy x0 x1) k = Related.table_copy (table x0) (table x1)
  layer_self (Instr-F.TableGrow x0) k = Related.table_grow (table x0)
  layer_self (Instr-F.TableSize x0) k = Related.table_size (table x0)
  layer_self (Instr-F.TableFill x0) k = Related.table_fill (table x0)

  mutual
    unfolding out-Instr denote.Hole.Carrier.out

    held : (o : Instr) → Held (out-Instr o)
    held (Block' b s c) = rw (items_shown-the_row-Instr-0 s c) (row_self c)
    held (Loop' b s c) = rw (items_shown-the_row-Instr-0 s c) (row_self c)
    held (If' b s c t d) = (rw (items_shown-the_row-Instr-0 s c) (row_self c), rw (items_shown-the_row-Instr-0 t d) (row_self d))
    held _ = tt

    row_self : {n : _} (r : Row_of-Instr n) → CodeRel R i i (items-the_row-Instr n r) (items-the_row-Instr n r)
    row_self end_of-Instr = end
    row_self (more_of-Instr o r) = then (layer_self (out-Instr o) (held o)) (row_self r)

  pub code_self : (os : List Instr) → CodeRel R i i os os
  code_self [] = end
  code_self (o ∷ os) = then (layer_self (out-Instr o) (held o)) (code_self os)
