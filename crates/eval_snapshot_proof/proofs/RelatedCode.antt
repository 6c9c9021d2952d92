-- The same code over two instances is related, where each index that it names denotes addresses in
-- the code relation.
use Rattle.base_lists.proofs.Common.{ℕ, List, [], ◌∷◌, refl, false, IsTrue}
use Rattle.base_lists.specs.Every.{Every}
use Rattle.wasm_tree_spec.specs.Prelude.{Space, Types, Functions, Tables, Memories, Globals, ElementSegments, DataSegments, BlockType, Instr, Row_of-Instr, end_of-Instr, more_of-Instr, items-the_row-Instr, items_shown-the_row-Instr-0, Layers, RowLayers, ListLayers, block_operands, operands}
use Rattle.wasm_tree.specs.declared.types.BlockType.TheVariants as bt
use Rattle.wasm_tree.specs.declared.instr.Instr.{out-Instr, Block', Loop', If'}
use Rattle.wasm_tree.specs.declared.instr.Instr.TheOpen.{Instr-F}
use Rattle.wasm_meaning.specs.Prelude.{Inst}
use Rattle.run_simulation.specs.Related
use Rattle.run_simulation.specs.Prelude.{Pairing, AreIndicesRelated, BlockRel, empty, value, indexed, OpRel, CodeRel, end, then}
use Rattle.run_simulation.specs.Related.{SameType}
use Rattle.index_remap.proofs.UnreplacedCode.{operands_follow}
use Rattle.index_remap_proof.specs.Indices.{Indices, LayerNamesOnly}

module _ (R : Pairing) (i j : Inst) where
  -- The index denotes addresses in the code relation, or equal types, or nothing in both instances.
  abbrev pub IndexAlike : Space → ℕ → Type 0
  IndexAlike Types n = SameType i j n n
  IndexAlike Functions n = AreIndicesRelated R.named Functions i.funcs j.funcs n n
  IndexAlike Tables n = AreIndicesRelated R.named Tables i.tables j.tables n n
  IndexAlike Memories n = AreIndicesRelated R.named Memories i.mems j.mems n n
  IndexAlike Globals n = AreIndicesRelated R.named Globals i.globals j.globals n n
  IndexAlike ElementSegments n = AreIndicesRelated R.named ElementSegments i.elems j.elems n n
  IndexAlike DataSegments n = AreIndicesRelated R.named DataSegments i.datas j.datas n n

  abbrev pub LayerAlike : Instr-F Instr → Type 0
  LayerAlike l = Every (λ o. IndexAlike o.space o.index) (operands l)

  block_alike : (b : BlockType) → Every (λ o. IndexAlike o.space o.index) (block_operands b) → BlockRel i j b b
  block_alike bt.Empty n = empty
  block_alike (bt.Value t) n = value
  block_alike (bt.Index k) n = indexed n.0

  -- The code inside the layer is related to itself.
  abbrev Held : Instr-F Instr → Type 0
  Held (Instr-F.Block b c) = CodeRel R i j c c
  Held (Instr-F.Loop b c) = CodeRel R i j c c
  Held (Instr-F.If b c d) = CodeRel R i j c c × CodeRel R i j d d
  Held _ = Unit {0}

  layer_alike : (l : Instr-F Instr) → LayerAlike l → Held l → OpRel R i j false l l
  layer_alike Instr-F.Unreachable n k = Related.unreachable
  layer_alike Instr-F.Nop n k = Related.nop
  layer_alike (Instr-F.Block x0 x1) n k = Related.block (block_alike x0 n) k
  layer_alike (Instr-F.Loop x0 x1) n k = Related.loop (block_alike x0 n) k
  layer_alike (Instr-F.If x0 x1 x2) n k = Related.if_else (block_alike x0 n) k.0 k.1
  layer_alike (Instr-F.Br x0) n k = Related.br
  layer_alike (Instr-F.BrIf x0) n k = Related.br_if
  layer_alike (Instr-F.BrTable x0 x1) n k = Related.br_table
  layer_alike Instr-F.Return n k = Related.return
  layer_alike (Instr-F.Call x0) n k = Related.call n.0
  layer_alike (Instr-F.CallIndirect x0 x1) n k = Related.call_indirect n.0 n.1.0
  layer_alike Instr-F.Drop n k = Related.drop
  layer_alike Instr-F.Select n k = Related.select
  layer_alike (Instr-F.SelectTyped x0) n k = Related.select_typed
  layer_alike (Instr-F.LocalGet x0) n k = Related.local_get
  layer_alike (Instr-F.LocalSet x0) n k = Related.local_set
  layer_alike (Instr-F.LocalTee x0) n k = Related.local_tee
  layer_alike (Instr-F.GlobalGet x0) n k = Related.global_get n.0
  layer_alike (Instr-F.GlobalSet x0) n k = Related.global_set n.0
  layer_alike (Instr-F.TableGet x0) n k = Related.table_get n.0
  layer_alike (Instr-F.TableSet x0) n k = Related.table_set n.0
  layer_alike (Instr-F.Load x0 x1) n k = Related.load (record { offset = refl; memory = n.0 })
  layer_alike (Instr-F.Store x0 x1) n k = Related.store (record { offset = refl; memory = n.0 })
  layer_alike (Instr-F.MemorySize x0) n k = Related.memory_size n.0
  layer_alike (Instr-F.MemoryGrow x0) n k = Related.memory_grow n.0
  layer_alike (Instr-F.I32Const x0) n k = Related.i32_const
  layer_alike (Instr-F.I64Const x0) n k = Related.i64_const
  layer_alike (Instr-F.Un x0) n k = Related.un
  layer_alike (Instr-F.Bin x0) n k = Related.bin
  layer_alike (Instr-F.RefNull x0) n k = Related.ref_null
  layer_alike Instr-F.RefIsNull n k = Related.ref_is_null
  layer_alike (Instr-F.RefFunc x0) n k = Related.ref_func n.0
  layer_alike (Instr-F.MemoryInit x0 x1) n k = Related.memory_init n.0 n.1.0
  layer_alike (Instr-F.DataDrop x0) n k = Related.data_drop n.0
  layer_alike (Instr-F.MemoryCopy x0 x1) n k = Related.memory_copy n.0 n.1.0
  layer_alike (Instr-F.MemoryFill x0) n k = Related.memory_fill n.0
  layer_alike (Instr-F.TableInit x0 x1) n k = Related.table_init n.0 n.1.0
  layer_alike (Instr-F.ElemDrop x0) n k = Related.elem_drop n.0
  layer_alike (Instr-F.TableCopy x0 x1) n k = Related.table_copy n.0 n.1.0
  layer_alike (Instr-F.TableGrow x0) n k = Related.table_grow n.0
  layer_alike (Instr-F.TableSize x0) n k = Related.table_size n.0
  layer_alike (Instr-F.TableFill x0) n k = Related.table_fill n.0

  mutual
    unfolding out-Instr denote.Hole.Carrier.out

    one_alike : (o : Instr) → Layers LayerAlike o → OpRel R i j false (out-Instr o) (out-Instr o)
    one_alike (Block' b s c) n = layer_alike (out-Instr (Block' b s c)) n.0 (rw (items_shown-the_row-Instr-0 s c) (row_alike c n.1))
    one_alike (Loop' b s c) n = layer_alike (out-Instr (Loop' b s c)) n.0 (rw (items_shown-the_row-Instr-0 s c) (row_alike c n.1))
    one_alike (If' b s c t d) n = layer_alike (out-Instr (If' b s c t d)) n.0 (rw (items_shown-the_row-Instr-0 s c) (row_alike c n.1), rw (items_shown-the_row-Instr-0 t d) (row_alike d n.2))
    one_alike o n = layer_alike (out-Instr o) n tt

    row_alike : {n : _} (r : Row_of-Instr n) → RowLayers LayerAlike r → CodeRel R i j (items-the_row-Instr n r) (items-the_row-Instr n r)
    row_alike end_of-Instr h = end
    row_alike (more_of-Instr o r) h = then (one_alike o h.0) (row_alike r h.1)

  pub code_alike : (os : List Instr) → ListLayers LayerAlike os → CodeRel R i j os os
  code_alike [] h = end
  code_alike (o ∷ os) h = then (one_alike o h.0) (code_alike os h.1)

  -- Code is related if it names only indices of a set, and each of them denotes related addresses.
  pub kept_alike : (kept : Indices) → ((k : Space) (n : ℕ) → IsTrue (kept k n) → IndexAlike k n) → (os : List Instr) → ListLayers (LayerNamesOnly kept) os → CodeRel R i j os os
  kept_alike kept alike os h = code_alike os (operands_follow (λ o. IsTrue (kept o.space o.index)) (λ o. IndexAlike o.space o.index) (λ o. alike o.space o.index) os h)
