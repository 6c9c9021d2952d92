-- Blocks: their contents as a row and as a list, and with other indices.
use Rattle.base_lists.proofs.Common.{◌≡◌, List, ap, sym, ◌∙◌, rules}
use Rattle.wasm_tree_spec.specs.Prelude.{BlockType, Instr, Row_of-Instr, items-the_row-Instr, items_shown-the_row-Instr-0, roll-out-Instr, the_lemmas, Block, Block', Loop, Loop', If, If'}
use Rattle.wasm_tree.specs.declared.instr.Instr.TheBlock.{shown-the_row-Instr-0}
use Rattle.wasm_tree.specs.declared.instr.Instr.TheViews.{roll-Instr, outs-Block', rolls-Block, outs-Loop', rolls-Loop, outs-If', rolls-If}
use Rattle.index_remap.specs.declared.remap.Remap.{Remap}
use Rattle.index_remap.specs.Prelude.{new_type, renumbered, renumbered_all}

-- A block with a row of instructions equals the block with the list of these instructions.
pub block_is : (bt : BlockType) (n : _) (row : Row_of-Instr _) → Block' bt n row ≡ Block bt (items-the_row-Instr _ row)
block_is bt n row = sym (roll-out-Instr (Block' bt n row)) ∙ ap roll-Instr (outs-Block' bt n row) ∙ rolls-Block bt (shown-the_row-Instr-0 n row) ∙ ap (Block bt) (items_shown-the_row-Instr-0 n row)

pub loop_is : (bt : BlockType) (n : _) (row : Row_of-Instr _) → Loop' bt n row ≡ Loop bt (items-the_row-Instr _ row)
loop_is bt n row = sym (roll-out-Instr (Loop' bt n row)) ∙ ap roll-Instr (outs-Loop' bt n row) ∙ rolls-Loop bt (shown-the_row-Instr-0 n row) ∙ ap (Loop bt) (items_shown-the_row-Instr-0 n row)

pub if_is : (bt : BlockType) (n : _) (row : Row_of-Instr _) (k : _) (other : Row_of-Instr _) → If' bt n row k other ≡ If bt (items-the_row-Instr _ row) (items-the_row-Instr _ other)
if_is bt n row k other =
    sym (roll-out-Instr (If' bt n row k other)) ∙ ap roll-Instr (outs-If' bt n row k other) ∙ rolls-If bt (shown-the_row-Instr-0 n row) (shown-the_row-Instr-0 k other)
    ∙ ap (λ is. If bt is (shown-the_row-Instr-0 k other)) (items_shown-the_row-Instr-0 n row) ∙ ap (If bt (items-the_row-Instr _ row)) (items_shown-the_row-Instr-0 k other)

module _ (m : Remap) where
  of_Block : (bt : BlockType) (is : List Instr) → renumbered m (Block bt is) ≡ Block (new_type m bt) (renumbered_all m is)
  of_Block bt is = search (rules, the_lemmas)

  of_Loop : (bt : BlockType) (is : List Instr) → renumbered m (Loop bt is) ≡ Loop (new_type m bt) (renumbered_all m is)
  of_Loop bt is = search (rules, the_lemmas)

  of_If : (bt : BlockType) (is os : List Instr) → renumbered m (If bt is os) ≡ If (new_type m bt) (renumbered_all m is) (renumbered_all m os)
  of_If bt is os = search (rules, the_lemmas)

  pub block_renumbered : (bt : BlockType) (n : _) (row : Row_of-Instr _) → renumbered m (Block' bt n row) ≡ Block (new_type m bt) (renumbered_all m (items-the_row-Instr _ row))
  block_renumbered bt n row = ap (renumbered m) (block_is bt n row) ∙ of_Block bt (items-the_row-Instr _ row)

  pub loop_renumbered : (bt : BlockType) (n : _) (row : Row_of-Instr _) → renumbered m (Loop' bt n row) ≡ Loop (new_type m bt) (renumbered_all m (items-the_row-Instr _ row))
  loop_renumbered bt n row = ap (renumbered m) (loop_is bt n row) ∙ of_Loop bt (items-the_row-Instr _ row)

  pub if_renumbered : (bt : BlockType) (n : _) (row : Row_of-Instr _) (k : _) (other : Row_of-Instr _) → renumbered m (If' bt n row k other) ≡ If (new_type m bt) (renumbered_all m (items-the_row-Instr _ row)) (renumbered_all m (items-the_row-Instr _ other))
  if_renumbered bt n row k other = ap (renumbered m) (if_is bt n row k other) ∙ of_If bt (items-the_row-Instr _ row) (items-the_row-Instr _ other)
