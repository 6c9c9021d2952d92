-- Code of which two properties hold layer by layer has both together, and so has a list of
-- operands.
use Rattle.base_lists.proofs.Common.{List, [], ◌∷◌}
use Rattle.base_lists.specs.Every.{Every}
use Rattle.wasm_tree_spec.specs.Prelude.{Operand, Instr, out-Instr, Row_of-Instr, end_of-Instr, more_of-Instr, Layers, RowLayers, ListLayers}
use Rattle.wasm_tree.specs.declared.instr.Instr.{Block', Loop', If'}
use Rattle.wasm_tree.specs.declared.instr.Instr.TheOpen.{Instr-F}

pub every_both : (P Q X : Operand → Type 0) → ((o : Operand) → P o → Q o → X o) → (os : List Operand) → Every P os → Every Q os → Every X os
every_both P Q X both [] p q = tt
every_both P Q X both (o ∷ os) p q = (both o p.0 q.0, every_both P Q X both os p.1 q.1)

module _ (P Q X : Instr-F Instr → Type 0) (both : (l : Instr-F Instr) → P l → Q l → X l) where
  mutual
    one_both : (o : Instr) → Layers P o → Layers Q o → Layers X o
    one_both (Block' b s c) p q = (both (out-Instr (Block' b s c)) p.0 q.0, row_both c p.1 q.1)
    one_both (Loop' b s c) p q = (both (out-Instr (Loop' b s c)) p.0 q.0, row_both c p.1 q.1)
    one_both (If' b s c t d) p q = (both (out-Instr (If' b s c t d)) p.0 q.0, row_both c p.1 q.1, row_both d p.2 q.2)
    one_both o p q = both (out-Instr o) p q

    row_both : {n : _} (r : Row_of-Instr n) → RowLayers P r → RowLayers Q r → RowLayers X r
    row_both end_of-Instr p q = tt
    row_both (more_of-Instr o r) p q = (one_both o p.0 q.0, row_both r p.1 q.1)

  pub code_both : (os : List Instr) → ListLayers P os → ListLayers Q os → ListLayers X os
  code_both [] p q = tt
  code_both (o ∷ os) p q = (one_both o p.0 q.0, code_both os p.1 q.1)
