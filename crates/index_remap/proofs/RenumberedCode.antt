-- Code is related to the same code with other indices, in which other code stands in place of calls
-- of listed functions.
use Rattle.base_lists.proofs.Common.{◌≡◌, ℕ, List, [], ◌∷◌, ◌++◌, Bool, true, false, ◌&&◌, refl, sym, subst}
use Rattle.base_lists.specs.Members.{is_among}
use Rattle.wasm_tree_spec.specs.Prelude.{FuncType, BlockType, Instr, fold_out-Instr, map-Instr, Row_of-Instr, end_of-Instr, more_of-Instr, items-the_row-Instr, items_shown-the_row-Instr-0, Block, Block', Loop, Loop', If, If', Call, Space, Functions, block_operands, map_operands, Layers, RowLayers}
use Rattle.wasm_tree_spec.specs.Prelude.{ListLayers}
use Rattle.wasm_tree.specs.declared.types.BlockType.TheVariants as bt
use Rattle.wasm_tree.specs.declared.instr.Instr.{out-Instr}
use Rattle.wasm_tree.specs.declared.instr.Instr.TheBlock.{shown-the_row-Instr-0}
use Rattle.wasm_tree.specs.declared.instr.Instr.TheOpen.{Instr-F}
use Rattle.wasm_tree.specs.declared.instr.Instr.TheVariants as i
use Rattle.wasm_meaning.specs.Prelude.{Inst}
use Rattle.base_lists.specs.Every.{Every}
use Rattle.index_remap.specs.declared.remap.Remap.{Remap}
use Rattle.run_simulation.specs.Related
use Rattle.run_simulation.specs.Prelude.{Pairing, BlockRel, empty, value, indexed, OpRel, CodeRel, end, then, instead}
use Rattle.index_remap.specs.Prelude.{entry, new_type, renumbered, renumbered_all, EntryNames, LayerNames, Labels, Codes, CallReplaced, DenotesOne, RowReplaced, Replaced, is_opaque_call, OtherNamed, OthersNamed}
use Rattle.index_remap.specs.Prelude.{ReplacementCodesFit}
use Rattle.index_remap.proofs.UnreplacedCode.{operands_follow, unlisted_renumbered}

module _ (R : Pairing) (m : Remap) (x y : Inst) where
  -- The instruction holds no other instructions.
  abbrev HoldsNone : Instr-F Instr → Type 0
  HoldsNone (Instr-F.Block b c) = ⊥
  HoldsNone (Instr-F.Loop b c) = ⊥
  HoldsNone (Instr-F.If b c d) = ⊥
  HoldsNone _ = Unit {0}

  layer_rel : (l : Instr-F Instr) → HoldsNone l → LayerNames R m x y l → OpRel R x y false l (out-Instr (map_operands (entry m) (map-Instr Instr Instr (renumbered m) l)))
  unfolding out-Instr denote.Hole.Carrier.out
  layer_rel Instr-F.Unreachable h n = Related.unreachable
  layer_rel Instr-F.Nop h n = Related.nop
  layer_rel (Instr-F.Block x0 x1) h n = absurd h
  layer_rel (Instr-F.Loop x0 x1) h n = absurd h
  layer_rel (Instr-F.If x0 x1 x2) h n = absurd h
  layer_rel (Instr-F.Br x0) h n = Related.br
  layer_rel (Instr-F.BrIf x0) h n = Related.br_if
  layer_rel (Instr-F.BrTable x0 x1) h n = Related.br_table
  layer_rel Instr-F.Return h n = Related.return
  layer_rel (Instr-F.Call x0) h n = Related.call n.0
  layer_rel (Instr-F.CallIndirect x0 x1) h n = Related.call_indirect n.0 n.1.0
  layer_rel Instr-F.Drop h n = Related.drop
  layer_rel Instr-F.Select h n = Related.select
  layer_rel (Instr-F.SelectTyped x0) h n = Related.select_typed
  layer_rel (Instr-F.LocalGet x0) h n = Related.local_get
  layer_rel (Instr-F.LocalSet x0) h n = Related.local_set
  layer_rel (Instr-F.LocalTee x0) h n = Related.local_tee
  layer_rel (Instr-F.GlobalGet x0) h n = Related.global_get n.0
  layer_rel (Instr-F.GlobalSet x0) h n = Related.global_set n.0
  layer_rel (Instr-F.TableGet x0) h n = Related.table_get n.0
  layer_rel (Instr-F.TableSet x0) h n = Related.table_set n.0
  layer_rel (Instr-F.Load x0 x1) h n = Related.load (record { offset = refl; memory = n.0 })
  layer_rel (Instr-F.Store x0 x1) h n = Related.store (record { offset = refl; memory = n.0 })
  layer_rel (Instr-F.MemorySize x0) h n = Related.memory_size n.0
  layer_rel (Instr-F.MemoryGrow x0) h n = Related.memory_grow n.0
  layer_rel (Instr-F.I32Const x0) h n = Related.i32_const
  layer_rel (Instr-F.I64Const x0) h n = Related.i64_const
  layer_rel (Instr-F.Un x0) h n = Related.un
  layer_rel (Instr-F.Bin x0) h n = Related.bin
  layer_rel (Instr-F.RefNull x0) h n = Related.ref_null
  layer_rel Instr-F.RefIsNull h n = Related.ref_is_null
  layer_rel (Instr-F.RefFunc x0) h n = Related.ref_func n.0
  layer_rel (Instr-F.MemoryInit x0 x1) h n = Related.memory_init n.0 n.1.0
  layer_rel (Instr-F.DataDrop x0) h n = Related.data_drop n.0
  layer_rel (Instr-F.MemoryCopy x0 x1) h n = Related.memory_copy n.0 n.1.0
  layer_rel (Instr-F.MemoryFill x0) h n = Related.memory_fill n.0
  layer_rel (Instr-F.TableInit x0 x1) h n = Related.table_init n.0 n.1.0
  layer_rel (Instr-F.ElemDrop x0) h n = Related.elem_drop n.0
  layer_rel (Instr-F.TableCopy x0 x1) h n = Related.table_copy n.0 n.1.0
  layer_rel (Instr-F.TableGrow x0) h n = Related.table_grow n.0
  layer_rel (Instr-F.TableSize x0) h n = Related.table_size n.0
  layer_rel (Instr-F.TableFill x0) h n = Related.table_fill n.0

  plain_rel : (o : Instr) → HoldsNone (out-Instr o) → LayerNames R m x y (out-Instr o) → OpRel R x y false (out-Instr o) (out-Instr (renumbered m o))
  plain_rel o h n = rw (fold_out-Instr Instr (map_operands (entry m)) o) (layer_rel (out-Instr o) h n)

  -- Related instructions in front of related code make related code.
  one_rel : (o p : Instr) (code c d : List Instr) → code ≡ p ∷ [] → OpRel R x y false (out-Instr o) (out-Instr p) → CodeRel R x y c d → CodeRel R x y (o ∷ c) (code ++ d)
  one_rel o p code c d e h k = subst (λ z. CodeRel R x y (o ∷ c) (z ++ d)) (sym e) (then h k)

  module _ (types : List FuncType) (listed : List ℕ) (codes : Codes) (may : ReplacementCodesFit R listed codes x y) where
    block_rel : (b : BlockType) → Every (λ o. OtherNamed R m (is_opaque_call listed o) x y o.space o.index) (block_operands b) → BlockRel x y b (new_type m b)
    block_rel bt.Empty n = empty
    block_rel (bt.Value t) n = value
    block_rel (bt.Index k) n = indexed n.0

    -- A call is related to what stands in its place, whether or not its function is on the list.
    call_rel : (f : ℕ) (b : Bool) → b ≡ is_among listed f → (labels : Labels) (code c d : List Instr) → OtherNamed R m b x y Functions f → CallReplaced m b codes labels f code → CodeRel R x y c d →
        CodeRel R x y (Call f ∷ c) (code ++ d)
    unfolding out-Instr denote.Hole.Carrier.out
    call_rel f true is labels code c d (a, found, free) k h = instead code refl found free (may labels f a code (sym is) k found) h
    call_rel f false is labels code c d q k h = one_rel (Call f) (renumbered m (Call f)) code c d k (plain_rel (Call f) tt (q, tt)) h

    mutual
      unfolding out-Instr denote.Hole.Carrier.out

      stands_rel : (labels : Labels) (o : Instr) (code c d : List Instr) → Layers (OthersNamed R m listed x y) o → DenotesOne types m listed codes labels o code → CodeRel R x y c d → CodeRel R x y (o ∷ c) (code ++ d)
      stands_rel labels (Block' ty n body) code c d q (b, k, e) h =
          let held : CodeRel R x y (shown-the_row-Instr-0 n body) b = rw (items_shown-the_row-Instr-0 n body) (row_rel _ body b q.1 k) in
          one_rel (Block' ty n body) (Block (new_type m ty) b) code c d e (rw (i.outs-Block (new_type m ty) b) (Related.block (block_rel ty q.0) held)) h
      stands_rel labels (Loop' ty n body) code c d q (b, k, e) h =
          let held : CodeRel R x y (shown-the_row-Instr-0 n body) b = rw (items_shown-the_row-Instr-0 n body) (row_rel _ body b q.1 k) in
          one_rel (Loop' ty n body) (Loop (new_type m ty) b) code c d e (rw (i.outs-Loop (new_type m ty) b) (Related.loop (block_rel ty q.0) held)) h
      stands_rel labels (If' ty n body l other) code c d q (b, o, k, z, e) h =
          let held : CodeRel R x y (shown-the_row-Instr-0 n body) b = rw (items_shown-the_row-Instr-0 n body) (row_rel _ body b q.1 k) in
          let others : CodeRel R x y (shown-the_row-Instr-0 l other) o = rw (items_shown-the_row-Instr-0 l other) (row_rel _ other o q.2 z) in
          one_rel (If' ty n body l other) (If (new_type m ty) b o) code c d e (rw (i.outs-If (new_type m ty) b o) (Related.if_else (block_rel ty q.0) held others)) h
      stands_rel labels (Call f) code c d q k h = call_rel f (is_among listed f) refl labels code c d q.0 k h
      stands_rel labels o code c d q k h = one_rel o (renumbered m o) code c d k (plain_rel o tt q) h

      row_rel : {n : _} (labels : Labels) (r : Row_of-Instr n) (js : List Instr) → RowLayers (OthersNamed R m listed x y) r → RowReplaced types m listed codes labels r js → CodeRel R x y (items-the_row-Instr n r) js
      row_rel labels end_of-Instr js q k = subst (CodeRel R x y []) (sym k) end
      row_rel labels (more_of-Instr o r) js q (code, rest, k, z, e) =
          subst (CodeRel R x y (o ∷ items-the_row-Instr _ r)) (sym e) (stands_rel labels o code (items-the_row-Instr _ r) rest q.0 k (row_rel labels r rest q.1 z))

    pub replaced_rel : (labels : Labels) (os js : List Instr) → ListLayers (OthersNamed R m listed x y) os → Replaced types m listed codes labels os js → CodeRel R x y os js
    replaced_rel labels [] js q k = subst (CodeRel R x y []) (sym k) end
    replaced_rel labels (o ∷ os) js q (code, rest, k, z, e) = subst (CodeRel R x y (o ∷ os)) (sym e) (stands_rel labels o code os rest q.0 k (replaced_rel labels os rest q.1 z))

-- If no function is on the list, each index names what its entry names.
named_other : (R : Pairing) (m : Remap) (x y : Inst) (called : Bool) (space : Space) (n : ℕ) → EntryNames R m x y space n → OtherNamed R m (called && is_among [] n) x y space n
named_other R m x y true space n h = h
named_other R m x y false space n h = h

pub renumbered_rel : (R : Pairing) (m : Remap) (x y : Inst) (os : List Instr) → ListLayers (LayerNames R m x y) os → CodeRel R x y os (renumbered_all m os)
renumbered_rel R m x y os h =
    replaced_rel R m x y [] [] (λ labels f. []) (λ labels f a code among. cc) [] os (renumbered_all m os) (operands_follow (λ o. EntryNames R m x y o.space o.index) (λ o. OtherNamed R m (is_opaque_call [] o) x y o.space o.index) (λ o. named_other R m x y o.called o.space o.index) os h)
    (unlisted_renumbered [] m (λ labels f. []) [] os)
