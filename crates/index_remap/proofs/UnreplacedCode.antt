-- Code in which no call is replaced is the body with other indices; and a test of all layers of
-- code follows from a stronger test.
use Rattle.base_lists.proofs.Common.{List, [], ◌∷◌, refl, ap}
use Rattle.wasm_tree_spec.specs.Prelude.{FuncType, Instr, out-Instr, Row_of-Instr, items-the_row-Instr, end_of-Instr, more_of-Instr, Block', Loop', If', Call, Operand, operands, Layers, RowLayers, ListLayers}
use Rattle.wasm_tree.specs.declared.instr.Instr.TheOpen.{Instr-F}
use Rattle.index_remap.specs.declared.remap.Remap.{Remap}
use Rattle.index_remap.specs.Prelude.{renumbered, renumbered_all, Labels, Codes, DenotesOne, RowReplaced, Replaced}
use Rattle.base_lists.specs.Every.{Every}
use Rattle.index_remap.proofs.BlockContents.{block_renumbered, loop_renumbered, if_renumbered}

module _ (types : List FuncType) (m : Remap) (codes : Codes) where
  mutual
    stands_renumbered : (labels : Labels) (i : Instr) → DenotesOne types m [] codes labels i (renumbered m i ∷ [])
    stands_renumbered labels (Block' ty n body) = (renumbered_all m (items-the_row-Instr _ body), row_renumbered _ body, ap (λ i. i ∷ []) (block_renumbered m ty n body))
    stands_renumbered labels (Loop' ty n body) = (renumbered_all m (items-the_row-Instr _ body), row_renumbered _ body, ap (λ i. i ∷ []) (loop_renumbered m ty n body))
    stands_renumbered labels (If' ty n body k other) =
        (renumbered_all m (items-the_row-Instr _ body), renumbered_all m (items-the_row-Instr _ other), row_renumbered _ body, row_renumbered _ other, ap (λ i. i ∷ []) (if_renumbered m ty n body k other))
    stands_renumbered labels (Call f) = refl
    stands_renumbered labels i = refl

    row_renumbered : {n : _} (labels : Labels) (is : Row_of-Instr n) → RowReplaced types m [] codes labels is (renumbered_all m (items-the_row-Instr n is))
    row_renumbered labels end_of-Instr = refl
    row_renumbered labels (more_of-Instr i is) = (renumbered m i ∷ [], renumbered_all m (items-the_row-Instr _ is), stands_renumbered labels i, row_renumbered labels is, refl)

  pub unlisted_renumbered : (labels : Labels) (is : List Instr) → Replaced types m [] codes labels is (renumbered_all m is)
  unlisted_renumbered labels [] = refl
  unlisted_renumbered labels (i ∷ is) = (renumbered m i ∷ [], renumbered_all m is, stands_renumbered labels i, unlisted_renumbered labels is, refl)

module _ (P Q : Instr-F Instr → Type 0) (k : (l : Instr-F Instr) → P l → Q l) where
  mutual
    layers_follow : (o : Instr) → Layers P o → Layers Q o
    layers_follow (Block' b s c) h = (k _ h.0, row_follows c h.1)
    layers_follow (Loop' b s c) h = (k _ h.0, row_follows c h.1)
    layers_follow (If' b s c t d) h = (k _ h.0, row_follows c h.1, row_follows d h.2)
    layers_follow o h = k (out-Instr o) h

    row_follows : {n : _} (r : Row_of-Instr n) → RowLayers P r → RowLayers Q r
    row_follows end_of-Instr h = tt
    row_follows (more_of-Instr o r) h = (layers_follow o h.0, row_follows r h.1)

  pub all_follow : (os : List Instr) → ListLayers P os → ListLayers Q os
  all_follow [] h = tt
  all_follow (o ∷ os) h = (layers_follow o h.0, all_follow os h.1)

-- A test of all operands of code follows from a stronger test of operands.
pub operands_follow : (P Q : Operand → Type 0) → ((o : Operand) → P o → Q o) → (os : List Instr) → ListLayers (λ l. Every P (operands l)) os → ListLayers (λ l. Every Q (operands l)) os
operands_follow P Q k = all_follow (λ l. Every P (operands l)) (λ l. Every Q (operands l)) (λ l. each (operands l))
  where
    each : (xs : List Operand) → Every P xs → Every Q xs
    each [] h = tt
    each (x ∷ xs) h = (k x h.0, each xs h.1)
